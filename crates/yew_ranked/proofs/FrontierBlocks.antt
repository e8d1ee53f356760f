-- The entries of the walk above the depth of tasks, by recursion on the tree: blocks with the groups of that depth, which keep the rules of a whole log.
use Rattle.std.proofs.Common.{◌≡◌, ◌≢◌, ℕ, zero, suc, ◌+◌, ◌<◌, ◌≤◌, List, [], ◌∷◌, ◌++◌, map, max, length, drop, Bool, true, false, ◌==◌, nat_le, if◌then◌else◌, Some}
use Rattle.std.proofs.Common.{refl, ap, ap₂, sym, subst, ◌∙◌, append-nil, arith, leb-true, leb-false, length-append}
use Rattle.std.specs.Prelude.{IsSome, IfSome}
use Rattle.std.specs.Option.{option_map}
use Rattle.std.specs.List.{AllByRecursion, flat_map}
use Rattle.std.proofs.lemmas.Bool.Decides.{nat_tests}
use Rattle.std.proofs.lemmas.List.Concat.{flat_map-append}
use Rattle.yew_laws.specs.Bag.{SameBag}
use Rattle.yew_laws.specs.SearchTree.{SearchTree, at_path, bound_at, below, child_paths, child_paths_of, numbered}
use Rattle.yew_laws.specs.Tree.{IsRanked}
use Rattle.yew_laws.proofs.Bags.{same-append, same-trans, same-is}
use Rattle.yew_laws.proofs.Below.{child-at, below-unfolds}
use Rattle.yew_laws.proofs.Members.{AllByRecursion-weaker}
use Rattle.yew_laws.proofs.Steps.{drop_from_drop}
use Rattle.yew_log.specs.Attained.{limit}
use Rattle.yew_log.specs.Groups.{SkeletonGroup, in_order, group_of}
use Rattle.yew_log.specs.Items.{in_turn}
use Rattle.yew_log.specs.Notes.{Note, visited, cut, spawned, ended, visits, cuts, judgement_in, visit_in, cut_in, sent_in, spawned_in, handed_in, taken_in, event_in, sent_paths, spawned_paths, handed_paths, taken_paths}
use Rattle.yew_log.specs.Places.{AtEach}
use Rattle.yew_log.specs.Segment.{IsValued, covered_paths}
use Rattle.yew_log.specs.SeqLog.{visited_worth}
use Rattle.yew_log.proofs.Blocks.{IsBlock, IsSpan, span-none, span-append, span-block, span-spawned_all, block-cut, block-close}
use Rattle.yew_log.proofs.Growth.{IsValued-append, covered_paths-append, group_of-append}
use Rattle.yew_log.proofs.Nesting.{all-flat}
use Rattle.yew_log.proofs.Places.{AtEach-append, AtEach-extend}
use Rattle.yew_log.proofs.SeqLaws.{Exact, worth-append}
use Rattle.yew_walk.proofs.KeyOrder.{limit-none}
use Rattle.yew_ranked.specs.Frontier.{frontier_notes}

pushed : (path : List ℕ) (k : ℕ) → path ++ k ∷ [] ≢ []
pushed [] k e = absurd (cc)
pushed (j ∷ path) k e = absurd (cc)

-- a row of Spawned entries is one group
spawned-group : (ps : List (List ℕ)) → group_of (map spawned ps) ≡ map spawned ps
spawned-group [] = refl
spawned-group (p ∷ ps) = ap (λ g. spawned p ∷ g) (spawned-group ps)

-- the paths of numbered children are those of the path with a number appended
numbered-children : {N : Type 0} (path : List ℕ) (k : ℕ) (cs : List N) → AllByRecursion (λ c. (number : ℕ) × (c ≡ path ++ number ∷ [])) (numbered path k cs)
numbered-children path k [] = tt
numbered-children path k (c ∷ cs) = ((k, refl), numbered-children path (suc k) cs)

module _ {N : Type 0} (t : SearchTree N) (depth : ℕ) where
  -- the group of the depth behind each visit, cut and end
  abbrev Grouping : List Note → Note → List Note → Type 0
  Grouping b n a = AllByRecursion (λ p. SkeletonGroup t (in_order depth) b n (group_of a)) (event_in n)

  -- what holds of entries that are made where this worth was held
  pub record Made (held : ℕ) (notes : List Note) : Type 0 where
    pub untaken : taken_paths notes ≡ []
    pub unhanded : handed_paths notes ≡ []
    pub sent_spawned : sent_paths notes ≡ spawned_paths notes
    pub sent_there : AllByRecursion (λ path. IsSome (at_path t path)) (sent_paths notes)
    pub valued : IsValued t notes
    pub exact : (before : List Note) → visited_worth before ≡ held → AtEach (λ b n a. AllByRecursion (Exact b) (judgement_in n)) before notes
    pub due : AllByRecursion (λ v. v.path ≢ [] → IfSome (bound_at t v.path) (λ b. limit 0 v.held < b)) (visits notes)
    pub cuts_below : AllByRecursion (λ c. c.path ≢ []) (cuts notes)
    pub permitted : AllByRecursion (λ c. c.value ≤ limit 0 c.held) (cuts notes)

  -- the entries begin with no group, and have the groups of the depth wherever they stand
  pub record HasDepthGroups (notes : List Note) : Type 0 where
    pub none_first : group_of notes ≡ []
    pub each : (before : List Note) → AtEach Grouping before notes

  -- the entries of a node and of what lies below it
  pub record IsPart (path : List ℕ) (held : ℕ) (notes : List Note) : Type 0 where
    pub is_block : IsBlock path notes
    pub made : Made held notes
    pub groups : HasDepthGroups notes
    pub all_covered : SameBag (covered_paths t notes) (below t path)

  -- the entries of these children, numbered from k on, and of what lies below them
  record AreParts (path : List ℕ) (k : ℕ) (cs : List N) (held : ℕ) (notes : List Note) : Type 0 where
    pub is_span : IsSpan path k (k + length cs) notes
    pub made : Made held notes
    pub groups : HasDepthGroups notes
    pub all_covered : SameBag (covered_paths t notes) (flat_map (below t) (numbered path k cs))

  made-nothing : (held : ℕ) → Made held []
  made-nothing held = record { untaken = refl; unhanded = refl; sent_spawned = refl; sent_there = tt; valued = record { worths = tt; bounds = tt }; exact = λ before e. tt; due = tt; cuts_below = tt; permitted = tt }

  made-append : (held : ℕ) (xs ys : List Note) → Made held xs → Made (max held (visited_worth xs)) ys → Made held (xs ++ ys)
  made-append held xs ys a b = record {
    untaken = flat_map-append taken_in xs ys ∙ ap₂ (λ us vs. us ++ vs) a.untaken b.untaken;
    unhanded = flat_map-append handed_in xs ys ∙ ap₂ (λ us vs. us ++ vs) a.unhanded b.unhanded;
    sent_spawned = flat_map-append sent_in xs ys ∙ ap₂ (λ us vs. us ++ vs) a.sent_spawned b.sent_spawned ∙ sym (flat_map-append spawned_in xs ys);
    sent_there = all-flat (λ path. IsSome (at_path t path)) sent_in xs ys a.sent_there b.sent_there;
    valued = IsValued-append t xs ys a.valued b.valued;
    exact = λ before e.
        AtEach-append (λ b' n. AllByRecursion (Exact b') (judgement_in n)) before xs ys (a.exact before e)
        (b.exact (before ++ xs) (worth-append before xs ∙ ap (λ h. max h (visited_worth xs)) e));
    due = all-flat (λ v. v.path ≢ [] → IfSome (bound_at t v.path) (λ c. limit 0 v.held < c)) visit_in xs ys a.due b.due;
    cuts_below = all-flat (λ c. c.path ≢ []) cut_in xs ys a.cuts_below b.cuts_below;
    permitted = all-flat (λ c. c.value ≤ limit 0 c.held) cut_in xs ys a.permitted b.permitted;
  }

  grouping-behind : (ys : List Note) → group_of ys ≡ [] → (b : List Note) (n : Note) (a : List Note) → Grouping b n a → Grouping b n (a ++ ys)
  grouping-behind ys e b n a =
      AllByRecursion-weaker (λ p. SkeletonGroup t (in_order depth) b n (group_of a)) (λ p. SkeletonGroup t (in_order depth) b n (group_of (a ++ ys)))
      (λ p r. subst (SkeletonGroup t (in_order depth) b n) (sym (group_of-append a ys e)) r) (event_in n)

  groups-append : (xs ys : List Note) → HasDepthGroups xs → HasDepthGroups ys → HasDepthGroups (xs ++ ys)
  groups-append xs ys a b = record {
    none_first = group_of-append xs ys b.none_first ∙ a.none_first;
    each = λ before. AtEach-extend Grouping before xs ys (grouping-behind ys b.none_first) (a.each before) (b.each (before ++ xs));
  }

  -- an end, behind which there is nothing
  end-groups : (path : List ℕ) → HasDepthGroups (ended path ∷ [])
  end-groups path = record { none_first = refl; each = λ before. ((refl, tt), tt) }

  made-end : (held : ℕ) (path : List ℕ) → Made held (ended path ∷ [])
  made-end held path = record { untaken = refl; unhanded = refl; sent_spawned = refl; sent_there = tt; valued = record { worths = tt; bounds = tt }; exact = λ before x. (tt, tt); due = tt; cuts_below = tt; permitted = tt }

  -- a visit and its end, with the entries between them
  made-close : (path : List ℕ) (n : N) (held : ℕ) (inside : List Note) → at_path t path ≡ Some n → (path ≢ [] → held < t.bound n) → Made (max held (t.worth n)) inside
      → Made held (visited path (t.worth n) held ∷ (inside ++ ended path ∷ []))
  made-close path n held inside e over made =
      made-append held (visited path (t.worth n) held ∷ []) (inside ++ ended path ∷ [])
      (record {
        untaken = refl;
        unhanded = refl;
        sent_spawned = refl;
        sent_there = tt;
        valued = record { worths = (ap (option_map t.worth) e, tt); bounds = tt };
        exact = λ before x. ((sym x, tt), tt);
        due = ((λ ne. subst (λ o. IfSome o (λ b. limit 0 held < b)) (sym (ap (option_map t.bound) e)) (let l = limit-none held in let o = over ne in omega (arith, l, o))), tt);
        cuts_below = tt;
        permitted = tt;
      })
      (subst (λ h. Made h (inside ++ ended path ∷ [])) (held_then held (t.worth n))
      (made-append (max held (t.worth n)) inside (ended path ∷ []) made (made-end (max (max held (t.worth n)) (visited_worth inside)) path)))
    where
      held_then : (h w : ℕ) → max h w ≡ max h (max w 0)
      held_then h w = omega arith

  module _ {sound : N → Type 0} (ranked : IsRanked sound t.children t.rank) where
    covered-close : (path : List ℕ) (n : N) (held : ℕ) (inside : List Note) → at_path t path ≡ Some n → sound n → SameBag (covered_paths t inside) (flat_map (below t) (numbered path 0 (t.children n)))
        → SameBag (covered_paths t (visited path (t.worth n) held ∷ (inside ++ ended path ∷ []))) (below t path)
    covered-close path n held inside e s covered =
        same-trans (covered_paths-append t (visited path (t.worth n) held ∷ []) (inside ++ ended path ∷ []))
        (same-trans (same-append (same-is (append-nil (path ∷ [])))
        (same-trans (covered_paths-append t inside (ended path ∷ [])) (same-trans (same-is (append-nil (covered_paths t inside))) covered)))
        (same-is (sym (below-unfolds t ranked path n e s))))

    cut-part : (path : List ℕ) (n : N) (held : ℕ) → at_path t path ≡ Some n → path ≢ [] → t.bound n ≤ held → IsPart path held (cut path (t.bound n) held ∷ [])
    cut-part path n held e ne le = record {
      is_block = block-cut path (t.bound n) held;
      made = record {
        untaken = refl;
        unhanded = refl;
        sent_spawned = refl;
        sent_there = tt;
        valued = record { worths = tt; bounds = (ap (option_map t.bound) e, tt) };
        exact = λ before x. ((sym x, tt), tt);
        due = tt;
        cuts_below = (ne, tt);
        permitted = ((let l = limit-none held in omega (arith, l, le)), tt);
      };
      groups = record { none_first = refl; each = λ before. ((refl, tt), tt) };
      all_covered = same-is (append-nil (below t path));
    }

    -- the spawned children of a node, numbered from k on
    spawned-made : (path : List ℕ) (n : N) → at_path t path ≡ Some n → (k : ℕ) (cs : List N) (held : ℕ) → drop k (t.children n) ≡ cs → Made held (map spawned (numbered path k cs))
    spawned-made path n e k [] held d = made-nothing held
    spawned-made path n e k (c ∷ cs) held d =
        let rest = spawned-made path n e (suc k) cs held (drop_from_drop (t.children n) k c cs d) in
        record {
          untaken = rest.untaken;
          unhanded = rest.unhanded;
          sent_spawned = ap (λ (ps : List (List ℕ)). (path ++ k ∷ []) ∷ ps) rest.sent_spawned;
          sent_there = (subst IsSome (sym (child-at t path n e k c cs d)) refl, rest.sent_there);
          valued = record { worths = rest.valued.worths; bounds = rest.valued.bounds };
          exact = λ before x. (tt, rest.exact (before ++ spawned (path ++ k ∷ []) ∷ []) (let w = worth-append before (spawned (path ++ k ∷ []) ∷ []) in omega (arith, w, x)));
          due = rest.due;
          cuts_below = rest.cuts_below;
          permitted = rest.permitted;
        }

    spawned-covered : (ps : List (List ℕ)) → SameBag (covered_paths t (map spawned ps)) (flat_map (below t) ps)
    spawned-covered [] = record { weighs = λ w. refl }
    spawned-covered (p ∷ ps) = same-trans (covered_paths-append t (spawned p ∷ []) (map spawned ps)) (same-append (same-is (append-nil (below t p))) (spawned-covered ps))

    -- behind the spawned children, which are the group of their node, there is the end
    spawned-each : (before : List Note) (ps : List (List ℕ)) (path : List ℕ) → AtEach Grouping before (map spawned ps ++ ended path ∷ [])
    spawned-each before [] path = ((refl, tt), tt)
    spawned-each before (p ∷ ps) path = (tt, spawned-each (before ++ spawned p ∷ []) ps path)

    -- a visit over the tasks
    over-part : (path : List ℕ) (n : N) (held : ℕ) → at_path t path ≡ Some n → sound n → suc (length path) ≡ depth → (path ≢ [] → held < t.bound n)
        → IsPart path held (visited path (t.worth n) held ∷ (map spawned (numbered path 0 (t.children n)) ++ ended path ∷ []))
    over-part path n held e s deep over =
        let tasks = numbered path 0 (t.children n) in
        record {
          is_block = block-close path 0 (t.worth n) held (map spawned tasks) (span-spawned_all path 0 path (record { rest = []; is = sym (append-nil path) }) tasks (numbered-children path 0 (t.children n)));
          made = made-close path n held (map spawned tasks) e over (spawned-made path n e 0 (t.children n) (max held (t.worth n)) refl);
          groups = record {
            none_first = refl;
            each = λ before. (
              (
                group_of-append (map spawned tasks) (ended path ∷ []) refl
                    ∙ (spawned-group tasks ∙ (ap (map spawned) (sym (ap (child_paths_of t path) e)) ∙ sym (ap (λ (b : Bool). if b then map spawned (child_paths t path) else []) (is_over (suc (length path)) depth deep)))),
                tt,
              ),
              spawned-each (before ++ visited path (t.worth n) held ∷ []) tasks path,
            );
          };
          all_covered = covered-close path n held (map spawned tasks) e s (spawned-covered tasks);
        }
      where
        is_over : (m d : ℕ) → m ≡ d → (m == d) ≡ true
        is_over m d same = grind (arith, nat_tests)

    -- a visit with levels between it and the tasks
    close-part : (path : List ℕ) (n : N) (held : ℕ) (inside : List Note) → at_path t path ≡ Some n → sound n → suc (length path) < depth → (path ≢ [] → held < t.bound n)
        → AreParts path 0 (t.children n) (max held (t.worth n)) inside → IsPart path held (visited path (t.worth n) held ∷ (inside ++ ended path ∷ []))
    close-part path n held inside e s high over parts =
        let behind = groups-append inside (ended path ∷ []) parts.groups (end-groups path) in
        record {
          is_block = block-close path (0 + length (t.children n)) (t.worth n) held inside parts.is_span;
          made = made-close path n held inside e over parts.made;
          groups = record {
            none_first = refl;
            each = λ before. (
              (behind.none_first ∙ sym (ap (λ (b : Bool). if b then map spawned (child_paths t path) else []) (not_over (suc (length path)) depth high)), tt),
              behind.each (before ++ visited path (t.worth n) held ∷ []),
            );
          };
          all_covered = covered-close path n held inside e s parts.all_covered;
        }
      where
        not_over : (m d : ℕ) → m < d → (m == d) ≡ false
        not_over m d less = grind (arith, nat_tests)

    module _ (levels : ℕ) (made : List ℕ → N → ℕ → List Note)
        (each : (path : List ℕ) (c : N) (held : ℕ) → at_path t path ≡ Some c → sound c → length path + suc levels ≡ depth → path ≢ [] → IsPart path held (made path c held)) where
      children-parts : (path : List ℕ) (n : N) → at_path t path ≡ Some n → length path + suc (suc levels) ≡ depth → (k : ℕ) (cs : List N) (held : ℕ) → drop k (t.children n) ≡ cs → AllByRecursion sound cs
          → AreParts path k cs held (in_turn visited_worth made path k cs held)
      children-parts path n e deep k [] held d s = record {
        is_span = let same : k ≡ k + 0 = omega arith in subst (λ h. IsSpan path k h []) same (span-none path k k);
        made = made-nothing held;
        groups = record { none_first = refl; each = λ before. tt };
        all_covered = record { weighs = λ w. refl };
      }
      children-parts path n e deep k (c ∷ cs) held d s =
          let first = made (path ++ k ∷ []) c held in
          let part = each (path ++ k ∷ []) c held (child-at t path n e k c cs d) s.0 (let l = length-append path (k ∷ []) in omega (arith, l, deep)) (pushed path k) in
          let rest = children-parts path n e deep (suc k) cs (max held (visited_worth first)) (drop_from_drop (t.children n) k c cs d) s.1 in
          let others = in_turn visited_worth made path (suc k) cs (max held (visited_worth first)) in
          record {
            is_span = let same : suc k + length cs ≡ k + suc (length cs) = omega arith in subst (λ h. IsSpan path k h (first ++ others)) same
                (span-append path k (suc k) (suc k) (suc k + length cs) first others (omega arith) (omega arith) (omega arith) (span-block path k first part.is_block) rest.is_span);
            made = made-append held first others part.made rest.made;
            groups = groups-append first others part.groups rest.groups;
            all_covered = same-trans (covered_paths-append t first others) (same-append part.all_covered rest.all_covered);
          }

    -- a child, which is cut or visited
    child-part : (levels : ℕ)
        → ((path : List ℕ) (n : N) (held : ℕ) → at_path t path ≡ Some n → sound n → length path + suc levels ≡ depth → (path ≢ [] → held < t.bound n) → IsPart path held (frontier_notes t levels path n held))
        → (p : List ℕ) (c : N) (h : ℕ) → at_path t p ≡ Some c → sound c → length p + suc levels ≡ depth → p ≢ [] → IsPart p h (if nat_le (t.bound c) h then cut p (t.bound c) h ∷ [] else frontier_notes t levels p c h)
    child-part levels visit p c h at sc deep ne = by (nat_le (t.bound c) h) refl
      where
        by : (v : Bool) → nat_le (t.bound c) h ≡ v → IsPart p h (if v then cut p (t.bound c) h ∷ [] else frontier_notes t levels p c h)
        by true x = cut-part p c h at ne (leb-true (t.bound c) h x)
        by false x = visit p c h at sc deep (λ q. let above : h < t.bound c = leb-false (t.bound c) h x in above)

    pub frontier-part : (levels : ℕ) (path : List ℕ) (n : N) (held : ℕ) → at_path t path ≡ Some n → sound n → length path + suc levels ≡ depth → (path ≢ [] → held < t.bound n)
        → IsPart path held (frontier_notes t levels path n held)
    frontier-part zero path n held e s deep over = over-part path n held e s (omega (arith, deep)) over
    frontier-part (suc levels) path n held e s deep over =
        let made : List ℕ → N → ℕ → List Note = λ p c h. if nat_le (t.bound c) h then cut p (t.bound c) h ∷ [] else frontier_notes t levels p c h in
        close-part path n held (in_turn visited_worth made path 0 (t.children n) (max held (t.worth n))) e s (omega (arith, deep)) over
        (children-parts levels made (child-part levels (frontier-part levels)) path n e deep 0 (t.children n) (max held (t.worth n)) refl (ranked.stays_sound n s))
