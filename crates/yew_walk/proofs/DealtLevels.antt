-- How the levels of a stack and the entries of a log go on together.
use Rattle.std.proofs.Common.{◌≡◌, ◌≢◌, ℕ, ◌+◌, ◌<◌, ◌≤◌, List, [], ◌∷◌, ◌++◌, drop, Some, Bool, true, false, not, cond, ◌||◌, ◌==◌, refl, ap, ap₂, sym, subst, ◌∙◌, append_assoc, append-nil, add-one, arith}
use Rattle.std.specs.Prelude.{IsFalse}
use Rattle.std.specs.List.{AllByRecursion}
use Rattle.std.proofs.lemmas.Bool.Decides.{nat_tests}
use Rattle.std.proofs.lemmas.List.{map_push, map-append}
use Rattle.std.proofs.lemmas.List.Elements.{filter-append}
use Rattle.yew_laws.specs.Order.{is_path}
use Rattle.yew_laws.specs.SearchTree.{SearchTree, at_path}
use Rattle.yew_laws.proofs.Below.{child-at}
use Rattle.yew_laws.proofs.Members.{AllByRecursion-append, AllByRecursion-weaker}
use Rattle.yew_laws.proofs.PathTests.{is_path-same, nat-is}
use Rattle.yew_laws.proofs.Steps.{drop_from_drop}
use Rattle.yew_log.specs.Notes.{Note, visited, cut, ended, path_of, visit_in, ended_in}
use Rattle.yew_stack.specs.Levels.{LevelView, Gives}
use Rattle.yew_stack.specs.Turns.{TopGives, TopEnds}
use Rattle.yew_stack.proofs.Coming.{AllByRecursion-around, AllByRecursion-push}
use Rattle.yew_walk.specs.Dealt.{has_entry, parents, IsInGiven, AreNested, IsDealtLevel, IsDealt}
use Rattle.yew_walk.proofs.OpenPaths.{differ, not-below-itself, apart, entry-kept, entry-here, entry-none, open-same, open-visit, without, open-end}

module _ {N : Type 0} where
  -- paths at or below the children that a level has given
  given-apart : (level : LevelView N) (path : List ℕ) → IsInGiven level path → (number : ℕ) (rest : List ℕ) → level.given ≤ number → level.parent ++ number ∷ rest ≢ path
  given-apart level path i number rest le e =
      let lt = i.given in apart level.parent number i.number rest i.rest (λ same. omega (arith, lt, le, same)) (e ∙ i.is)

  given-below : (level : LevelView N) (path : List ℕ) (k : ℕ) (more : List ℕ) → IsInGiven level path → IsInGiven level (path ++ k ∷ more)
  given-below level path k more i = record {
    number = i.number;
    rest = i.rest ++ k ∷ more;
    is = ap (λ p. p ++ k ∷ more) i.is ∙ append_assoc level.parent (i.number ∷ i.rest) (k ∷ more);
    given = i.given;
  }

  given-more : (level rest : LevelView N) (path child : List ℕ) (node : N) → Gives level child node rest → IsInGiven level path → IsInGiven rest path
  given-more level rest path child node gives i = record {
    number = i.number;
    rest = i.rest;
    is = i.is ∙ ap (λ p. p ++ i.number ∷ i.rest) (sym gives.parent_is);
    given = let lt = i.given in omega (arith, lt, gives.given_is);
  }

  given-here : (level rest : LevelView N) (path : List ℕ) (node : N) → Gives level path node rest → IsInGiven rest path
  given-here level rest path node gives = record {
    number = level.given;
    rest = [];
    is = gives.path_is ∙ ap (λ p. p ++ level.given ∷ []) (sym gives.parent_is);
    given = omega (arith, gives.given_is);
  }

  given-longer : (level : LevelView N) (path : List ℕ) → IsInGiven level path → level.parent ≢ path
  given-longer level path i e = not-below-itself level.parent i.number i.rest (e ∙ i.is)

  -- nested levels
  nested-below : (lower : List (LevelView N)) (level : LevelView N) (upper : List (LevelView N)) → AreNested (lower ++ level ∷ upper) → AllByRecursion (λ (l : LevelView N). IsInGiven l level.parent) lower
  nested-below [] level upper n = tt
  nested-below (l ∷ lower) level upper n = ((AllByRecursion-around (λ (u : LevelView N). IsInGiven l u.parent) lower level upper n.0).here, nested-below lower level upper n.1)

  nested-push : (ls : List (LevelView N)) (top : LevelView N) → AreNested ls → AllByRecursion (λ (l : LevelView N). IsInGiven l top.parent) ls → AreNested (ls ++ top ∷ [])
  nested-push [] top n a = (tt, tt)
  nested-push (l ∷ ls) top n a = (AllByRecursion-append (λ (u : LevelView N). IsInGiven l u.parent) ls (top ∷ []) n.0 (a.0, tt), nested-push ls top n.1 a.1)

  nested-pop : (ls : List (LevelView N)) (top : LevelView N) → AreNested (ls ++ top ∷ []) → AreNested ls
  nested-pop [] top n = tt
  nested-pop (l ∷ ls) top n = ((AllByRecursion-push (λ (u : LevelView N). IsInGiven l u.parent) ls top n.0).0, nested-pop ls top n.1)

  parents-same : (lower upper : List (LevelView N)) (level rest : LevelView N) → rest.parent ≡ level.parent → parents (lower ++ level ∷ upper) ≡ parents (lower ++ rest ∷ upper)
  parents-same lower upper level rest e =
      map-append (λ (l : LevelView N). l.parent) lower (level ∷ upper)
      ∙ ap (λ p. parents lower ++ p ∷ parents upper) (sym e)
      ∙ sym (map-append (λ (l : LevelView N). l.parent) lower (rest ∷ upper))

  -- no level but the top one has the path of the top one
  ends-keep : (ls : List (LevelView N)) (path : List ℕ) → AllByRecursion (λ (l : LevelView N). IsInGiven l path) ls → without path (parents ls) ≡ parents ls
  ends-keep [] path a = refl
  ends-keep (l ∷ ls) path a =
      ap₂ (λ (b : Bool) (others : List (List ℕ)). cond (not b) (l.parent ∷ others) others) (differ l.parent path (given-longer l path a.0)) (ends-keep ls path a.1)

  module _ (t : SearchTree N) where
    -- a level after an entry of another level
    level-more : (notes : List Note) (note : Note) (level : LevelView N) → ((number : ℕ) (rest : List ℕ) → level.given ≤ number → level.parent ++ number ∷ rest ≢ path_of note) → IsDealtLevel t notes level → IsDealtLevel t (notes ++ note ∷ []) level
    level-more notes note level other d = record {
      node = d.node;
      found = d.found;
      remaining_is = d.remaining_is;
      noted = λ number lt. entry-kept notes note (level.parent ++ number ∷ []) (d.noted number lt);
      fresh = λ number rest le. entry-none notes note (level.parent ++ number ∷ rest) (d.fresh number rest le) (other number rest le);
    }

    -- levels of which each has given the path of an entry, or what it lies below
    levels-more : (notes : List Note) (note : Note) (ls : List (LevelView N)) → AllByRecursion (λ (l : LevelView N). IsInGiven l (path_of note)) ls → AllByRecursion (IsDealtLevel t notes) ls → AllByRecursion (IsDealtLevel t (notes ++ note ∷ [])) ls
    levels-more notes note [] i d = tt
    levels-more notes note (l ∷ ls) i d = (level-more notes note l (given-apart l (path_of note) i.0) d.0, levels-more notes note ls i.1 d.1)

    -- a level that has given its next child, after the entry of that child
    level-gives : (notes : List Note) (note : Note) (level rest : LevelView N) (path : List ℕ) (node : N) → Gives level path node rest → path_of note ≡ path → IsDealtLevel t notes level → IsDealtLevel t (notes ++ note ∷ []) rest
    level-gives notes note level rest path node gives note_path d =
        let first : drop level.given (t.children d.node) ≡ node ∷ rest.remaining = sym d.remaining_is ∙ gives.remaining_is in
        let note_is : path_of note ≡ level.parent ++ level.given ∷ [] = note_path ∙ gives.path_is in
        record {
          node = d.node;
          found = rw gives.parent_is d.found;
          remaining_is = rw (gives.given_is, add-one) (sym (drop_from_drop (t.children d.node) level.given node rest.remaining first));
          noted = λ number lt. rw gives.parent_is (by note_is number (omega (arith, lt, gives.given_is)) (number == level.given) refl);
          fresh = λ number more le. rw gives.parent_is (
              entry-none notes note (level.parent ++ number ∷ more) (d.fresh number more (omega (arith, le, gives.given_is)))
              (λ e. apart level.parent number level.given more [] (λ same. omega (arith, le, same, gives.given_is)) (e ∙ note_is)));
        }
      where
        by : path_of note ≡ level.parent ++ level.given ∷ [] → (number : ℕ) → number < level.given + 1 → (b : Bool) → (number == level.given) ≡ b → has_entry (notes ++ note ∷ []) (level.parent ++ number ∷ []) ≡ true
        by note_is number lt true e =
            entry-here notes note (level.parent ++ number ∷ []) (note_is ∙ ap (λ k. level.parent ++ k ∷ []) (sym (nat-is number level.given e)))
        by note_is number lt false e =
            let below : number < level.given = grind (arith, nat_tests) in
            entry-kept notes note (level.parent ++ number ∷ []) (d.noted number below)

    -- a level has given its next child, and the entry of that child is noted: the levels around it stay
    gives-levels : (notes : List Note) (note : Note) (lower upper : List (LevelView N)) (level rest : LevelView N) (path : List ℕ) (node : N) → Gives level path node rest → path_of note ≡ path → AreNested (lower ++ level ∷ upper) → AllByRecursion (IsDealtLevel t notes) (lower ++ level ∷ upper) → AreNested (lower ++ rest ∷ upper) × AllByRecursion (IsDealtLevel t (notes ++ note ∷ [])) (lower ++ rest ∷ upper)
    gives-levels notes note [] upper level rest path node gives note_path n d = (
      (AllByRecursion-weaker (λ (u : LevelView N). IsInGiven level u.parent) (λ (u : LevelView N). IsInGiven rest u.parent) (λ u i. given-more level rest u.parent path node gives i) upper n.0, n.1),
      (level-gives notes note level rest path node gives note_path d.0, above upper n.0 d.1),
    )
      where
        above : (ls : List (LevelView N)) → AllByRecursion (λ (u : LevelView N). IsInGiven level u.parent) ls → AllByRecursion (IsDealtLevel t notes) ls → AllByRecursion (IsDealtLevel t (notes ++ note ∷ [])) ls
        above [] i each = tt
        above (u ∷ ls) i each = (
          level-more notes note u
              (λ number more le e.
              let inside = given-below level u.parent number more i.0 in
              given-apart level (u.parent ++ number ∷ more) inside level.given [] (omega arith) (sym gives.path_is ∙ sym note_path ∙ sym e))
              each.0,
          above ls i.1 each.1,
        )
    gives-levels notes note (l ∷ lower) upper level rest path node gives note_path n d =
        let others = gives-levels notes note lower upper level rest path node gives note_path n.1 d.1 in
        let around = AllByRecursion-around (λ (u : LevelView N). IsInGiven l u.parent) lower level upper n.0 in
        let inside = given-below l level.parent level.given [] around.here in
        let here : IsInGiven l (path_of note) = subst (IsInGiven l) (sym (note_path ∙ gives.path_is)) inside in (
          (AllByRecursion-append (λ (u : LevelView N). IsInGiven l u.parent) lower (rest ∷ upper) around.before (subst (IsInGiven l) (sym gives.parent_is) around.here, around.after), others.0),
          (level-more notes note l (given-apart l (path_of note) here) d.0, others.1),
        )

    -- the next child of a level is noted, neither as a visit nor as an end
    pub dealt-gives : (notes : List Note) (note : Note) (lower upper : List (LevelView N)) (level rest : LevelView N) (path : List ℕ) (node : N) → Gives level path node rest → path_of note ≡ path → visit_in note ≡ [] → ended_in note ≡ [] → IsDealt t notes (lower ++ level ∷ upper) → IsDealt t (notes ++ note ∷ []) (lower ++ rest ∷ upper)
    dealt-gives notes note lower upper level rest path node gives note_path no_visit no_end d =
        let g = gives-levels notes note lower upper level rest path node gives note_path d.nested d.each in
        record {
          open_is = open-same notes note no_visit no_end ∙ d.open_is ∙ parents-same lower upper level rest gives.parent_is;
          nested = g.0;
          each = g.1;
        }

    -- nothing is noted
    pub dealt-none : IsDealt t [] []
    dealt-none = record { open_is = refl; nested = tt; each = tt }

    -- the task is cut
    pub dealt-first_cut : (task : List ℕ) (bound held : ℕ) → IsDealt t (cut task bound held ∷ []) []
    dealt-first_cut task bound held = record { open_is = refl; nested = tt; each = tt }

    -- the task is visited
    pub dealt-first_visit : (task : List ℕ) (worth held : ℕ) (node : N) → at_path t task ≡ Some node → IsDealt t (visited task worth held ∷ []) (record { parent = task; given = 0; remaining = t.children node } ∷ [])
    dealt-first_visit task worth held node found = record {
      open_is = refl;
      nested = (tt, tt);
      each = (
        record {
          node = node;
          found = found;
          remaining_is = refl;
          noted = λ number lt. absurd (omega arith);
          fresh = λ number rest le. ap (λ b. b || false) (differ (task ++ number ∷ rest) task (λ e. not-below-itself task number rest (sym e)));
        },
        tt,
      );
    }

    -- a node that the top level gives stands in the tree, and nothing at or below it has an entry
    pub dealt-found : (notes : List Note) (old mid : List (LevelView N)) (path : List ℕ) (node : N) → TopGives old path node mid → IsDealt t notes old → at_path t path ≡ Some node
    dealt-found notes old mid path node turn dealt =
        let top = (AllByRecursion-around (IsDealtLevel t notes) turn.lower turn.top [] (subst (AllByRecursion (IsDealtLevel t notes)) turn.old_is dealt.each)).here in
        let first : drop turn.top.given (t.children top.node) ≡ node ∷ turn.rest.remaining = sym top.remaining_is ∙ turn.gives.remaining_is in
        ap (at_path t) turn.gives.path_is ∙ child-at t turn.top.parent top.node top.found turn.top.given node turn.rest.remaining first

    pub dealt-fresh : (notes : List Note) (old mid : List (LevelView N)) (path : List ℕ) (node : N) → TopGives old path node mid → IsDealt t notes old → (rest : List ℕ) → IsFalse (has_entry notes (path ++ rest))
    dealt-fresh notes old mid path node turn dealt rest =
        let top = (AllByRecursion-around (IsDealtLevel t notes) turn.lower turn.top [] (subst (AllByRecursion (IsDealtLevel t notes)) turn.old_is dealt.each)).here in
        ap (λ p. has_entry notes (p ++ rest)) turn.gives.path_is
        ∙ ap (has_entry notes) (append_assoc turn.top.parent (turn.top.given ∷ []) rest)
        ∙ top.fresh turn.top.given rest (omega arith)

    -- the top level gives a node, which is visited
    pub dealt-visit : (notes : List Note) (old mid : List (LevelView N)) (path : List ℕ) (node : N) (worth held : ℕ) → TopGives old path node mid → IsDealt t notes old → IsDealt t (notes ++ visited path worth held ∷ []) (mid ++ record { parent = path; given = 0; remaining = t.children node } ∷ [])
    dealt-visit notes old mid path node worth held turn dealt =
        subst (λ ls. IsDealt t (notes ++ note ∷ []) (ls ++ level ∷ [])) (sym turn.new_is) (
        let d : IsDealt t notes (turn.lower ++ turn.top ∷ []) = subst (IsDealt t notes) turn.old_is dealt in
        let g = gives-levels notes note turn.lower [] turn.top turn.rest path node turn.gives refl d.nested d.each in
        let clear : (rest : List ℕ) → has_entry notes (path ++ rest) ≡ false = dealt-fresh notes old mid path node turn dealt in
        let below : AllByRecursion (λ (l : LevelView N). IsInGiven l path) turn.lower
        = AllByRecursion-weaker (λ (l : LevelView N). IsInGiven l turn.top.parent) (λ (l : LevelView N). IsInGiven l path)
        (λ l i. subst (IsInGiven l) (sym turn.gives.path_is) (given-below l turn.top.parent turn.top.given [] i))
        turn.lower (nested-below turn.lower turn.top [] d.nested) in
        record {
          open_is = open-visit notes path worth held (ap (has_entry notes) (sym (append-nil path)) ∙ clear [])
              ∙ ap (λ ps. ps ++ path ∷ []) (d.open_is ∙ parents-same turn.lower [] turn.top turn.rest turn.gives.parent_is)
              ∙ sym (map_push (λ (l : LevelView N). l.parent) (turn.lower ++ turn.rest ∷ []) level);
          nested = nested-push (turn.lower ++ turn.rest ∷ []) level g.0
              (AllByRecursion-append (λ (l : LevelView N). IsInGiven l path) turn.lower (turn.rest ∷ []) below (given-here turn.top turn.rest path node turn.gives, tt));
          each = AllByRecursion-append (IsDealtLevel t (notes ++ note ∷ [])) (turn.lower ++ turn.rest ∷ []) (level ∷ []) g.1 (
            record {
              node = node;
              found = dealt-found notes old mid path node turn dealt;
              remaining_is = refl;
              noted = λ number lt. absurd (omega arith);
              fresh = λ number rest le. entry-none notes note (path ++ number ∷ rest) (clear (number ∷ rest)) (λ e. not-below-itself path number rest (sym e));
            },
            tt,
          );
        }
        )
      where
        note : Note
        note = visited path worth held

        level : LevelView N
        level = record { parent = path; given = 0; remaining = t.children node }

    -- the top level gives a node, which is cut
    pub dealt-cut : (notes : List Note) (old mid : List (LevelView N)) (path : List ℕ) (node : N) (bound held : ℕ) → TopGives old path node mid → IsDealt t notes old → IsDealt t (notes ++ cut path bound held ∷ []) mid
    dealt-cut notes old mid path node bound held turn d =
        subst (IsDealt t (notes ++ cut path bound held ∷ [])) (sym turn.new_is)
        (dealt-gives notes (cut path bound held) turn.lower [] turn.top turn.rest path node turn.gives refl refl refl (subst (IsDealt t notes) turn.old_is d))

    -- the top level ends
    pub dealt-end : (notes : List Note) (old new : List (LevelView N)) (path : List ℕ) → TopEnds old path new → IsDealt t notes old → IsDealt t (notes ++ ended path ∷ []) new
    dealt-end notes old new path turn dealt =
        let d : IsDealt t notes (new ++ turn.top ∷ []) = subst (IsDealt t notes) turn.old_is dealt in
        let inside : AllByRecursion (λ (l : LevelView N). IsInGiven l path) new = subst (λ p. AllByRecursion (λ (l : LevelView N). IsInGiven l p) new) turn.parent_is (nested-below new turn.top [] d.nested) in
        let keep : List ℕ → Bool = λ p. not (is_path p path) in
        record {
          open_is = open-end notes path
              ∙ ap (without path) (d.open_is ∙ map_push (λ (l : LevelView N). l.parent) new turn.top)
              ∙ filter-append keep (parents new) (turn.top.parent ∷ [])
              ∙ ap₂ (λ (ps : List (List ℕ)) (b : Bool). ps ++ cond (not b) (turn.top.parent ∷ []) []) (ends-keep new path inside) (ap (λ p. is_path p path) turn.parent_is ∙ is_path-same path)
              ∙ append-nil (parents new);
          nested = nested-pop new turn.top d.nested;
          each = levels-more notes (ended path) new inside (AllByRecursion-push (IsDealtLevel t notes) new turn.top d.each).0;
        }
