-- The one sequential log is lawful.
use Rattle.std.proofs.Common.{◌≡◌, ◌≢◌, ℕ, zero, suc, ◌+◌, ◌<◌, ◌≤◌, List, [], ◌∷◌, ◌++◌, max, length, drop, Bool, true, false, nat_le, if◌then◌else◌, Some, refl, ap, ap₂, sym, subst, ◌∙◌, append-nil, arith, leb-true, leb-false}
use Rattle.std.specs.Prelude.{IfSome}
use Rattle.std.specs.Option.{option_map}
use Rattle.std.specs.List.{AllByRecursion, flat_map}
use Rattle.std.proofs.lemmas.List.Concat.{flat_map-append}
use Rattle.yew_laws.specs.Tree.{IsRanked}
use Rattle.yew_laws.proofs.Steps.{drop_from_drop}
use Rattle.yew_laws.proofs.Members.{AllByRecursion-weaker}
use Rattle.yew_laws.specs.Bag.{SameBag}
use Rattle.yew_log.specs.Places.{AtEach}
use Rattle.yew_laws.specs.SearchTree.{SearchTree, at_path, bound_at, below, numbered}
use Rattle.yew_log.specs.Notes.{Note, visited, cut, ended, Judgement, values, visits, cuts, judgement_in, visit_in, cut_in, sent_in, taken_in, sent_paths, taken_paths, maximum}
use Rattle.yew_log.specs.Attained.{limit}
use Rattle.yew_log.specs.Segment.{IsValued, covered_paths}
use Rattle.yew_log.specs.SeqLog.{visited_worth, visit_notes}
use Rattle.yew_log.specs.Items.{in_turn}
use Rattle.yew_log.proofs.Places.{AtEach-append}
use Rattle.yew_laws.proofs.Bags.{same-append, same-trans, same-is}
use Rattle.yew_laws.proofs.Below.{child-at, below-unfolds}
use Rattle.yew_log.proofs.Nesting.{all-flat}
use Rattle.yew_log.proofs.Blocks.{IsBlock, IsSpan, span-none, span-append, span-block, block-cut, block-close}
use Rattle.yew_log.proofs.Growth.{IsValued-append, covered_paths-append, worths-append}

maximum-append : (xs ys : List ℕ) → maximum (xs ++ ys) ≡ max (maximum xs) (maximum ys)
maximum-append [] ys = omega arith
maximum-append (x ∷ xs) ys = let r = maximum-append xs ys in omega arith

pub worth-append : (xs ys : List Note) → visited_worth (xs ++ ys) ≡ max (visited_worth xs) (visited_worth ys)
worth-append xs ys = ap maximum (worths-append xs ys) ∙ maximum-append (values (visits xs)) (values (visits ys))

push_not_nil : (path : List ℕ) (k : ℕ) → path ++ k ∷ [] ≢ []
push_not_nil [] k e = absurd (cc)
push_not_nil (j ∷ path) k e = absurd (cc)

held_then : (h w : ℕ) → max h w ≡ max h (max w 0)
held_then h w = omega arith

-- rule 9 of one visit or cut
abbrev pub Exact : List Note → Judgement → Type 0
Exact before j = j.held ≡ visited_worth before

module _ {N : Type 0} (t : SearchTree N) (gap : ℕ) where
  -- what holds of entries that are made where this worth was held
  pub record Made (held : ℕ) (notes : List Note) : Type 0 where
    pub untaken : taken_paths notes ≡ []
    pub unsent : sent_paths notes ≡ []
    pub valued : IsValued t notes
    pub exact : (before : List Note) → visited_worth before ≡ held → AtEach (λ b n a. AllByRecursion (Exact b) (judgement_in n)) before notes
    pub due : AllByRecursion (λ v. v.path ≢ [] → IfSome (bound_at t v.path) (λ b. limit gap v.held < b)) (visits notes)
    pub cuts_below : AllByRecursion (λ c. c.path ≢ []) (cuts notes)
    pub permitted : AllByRecursion (λ c. c.value ≤ limit gap c.held) (cuts notes)

  made-nothing : (held : ℕ) → Made held []
  made-nothing held = record { untaken = refl; unsent = refl; valued = record { worths = tt; bounds = tt }; exact = λ before e. tt; due = tt; cuts_below = tt; permitted = tt }

  made-append : (held : ℕ) (xs ys : List Note) → Made held xs → Made (max held (visited_worth xs)) ys → Made held (xs ++ ys)
  made-append held xs ys a b = record {
    untaken = flat_map-append taken_in xs ys ∙ ap₂ (λ us vs. us ++ vs) a.untaken b.untaken;
    unsent = flat_map-append sent_in xs ys ∙ ap₂ (λ us vs. us ++ vs) a.unsent b.unsent;
    valued = IsValued-append t xs ys a.valued b.valued;
    exact = λ before e.
        AtEach-append (λ b' n. AllByRecursion (Exact b') (judgement_in n)) before xs ys (a.exact before e)
        (b.exact (before ++ xs) (worth-append before xs ∙ ap (λ h. max h (visited_worth xs)) e));
    due = all-flat (λ v. v.path ≢ [] → IfSome (bound_at t v.path) (λ c. limit gap v.held < c)) visit_in xs ys a.due b.due;
    cuts_below = all-flat (λ c. c.path ≢ []) cut_in xs ys a.cuts_below b.cuts_below;
    permitted = all-flat (λ c. c.value ≤ limit gap c.held) cut_in xs ys a.permitted b.permitted;
  }

  -- the entries of a node and of all below it
  pub record Part (path : List ℕ) (held : ℕ) (notes : List Note) : Type 0 where
    pub is_block : IsBlock path notes
    pub is_made : Made held notes
    pub all_covered : SameBag (covered_paths t notes) (below t path)

  -- the entries of these children, numbered from k on, and of all below them
  pub record Kids (path : List ℕ) (k : ℕ) (cs : List N) (held : ℕ) (notes : List Note) : Type 0 where
    pub is_span : IsSpan path k (k + length cs) notes
    pub is_made : Made held notes
    pub all_covered : SameBag (covered_paths t notes) (flat_map (below t) (numbered path k cs))

  module _ {sound : N → Type 0} (ranked : IsRanked sound t.children t.rank) where
    cut-part : (path : List ℕ) (n : N) (held : ℕ) → at_path t path ≡ Some n → path ≢ [] → t.bound n ≤ limit gap held → Part path held (cut path (t.bound n) held ∷ [])
    cut-part path n held e ne le = record {
      is_block = block-cut path (t.bound n) held;
      is_made = record { untaken = refl; unsent = refl; valued = record { worths = tt; bounds = (ap (option_map t.bound) e, tt) }; exact = λ before x. ((sym x, tt), tt); due = tt; cuts_below = (ne, tt); permitted = (le, tt) };
      all_covered = same-is (append-nil (below t path));
    }

    close-part : (path : List ℕ) (n : N) (held : ℕ) (inside : List Note) → at_path t path ≡ Some n → sound n → (path ≢ [] → limit gap held < t.bound n) → Kids path 0 (t.children n) (max held (t.worth n)) inside → Part path held (visited path (t.worth n) held ∷ (inside ++ ended path ∷ []))
    close-part path n held inside e s over kids = record {
      is_block = block-close path (0 + length (t.children n)) (t.worth n) held inside kids.is_span;
      is_made = made-append held (visited path (t.worth n) held ∷ []) (inside ++ ended path ∷ [])
          (record {
            untaken = refl;
            unsent = refl;
            valued = record { worths = (ap (option_map t.worth) e, tt); bounds = tt };
            exact = λ before x. ((sym x, tt), tt);
            due = ((λ ne. subst (λ o. IfSome o (λ b. limit gap held < b)) (sym (ap (option_map t.bound) e)) (over ne)), tt);
            cuts_below = tt;
            permitted = tt;
          })
          (subst (λ h. Made h (inside ++ ended path ∷ [])) (held_then held (t.worth n))
          (made-append (max held (t.worth n)) inside (ended path ∷ []) kids.is_made
          (record { untaken = refl; unsent = refl; valued = record { worths = tt; bounds = tt }; exact = λ before x. (tt, tt); due = tt; cuts_below = tt; permitted = tt })));
      all_covered =
          same-trans (covered_paths-append t (visited path (t.worth n) held ∷ []) (inside ++ ended path ∷ []))
          (same-trans (same-append (same-is (append-nil (path ∷ [])))
          (same-trans (covered_paths-append t inside (ended path ∷ [])) (same-trans (same-is (append-nil (covered_paths t inside))) kids.all_covered)))
          (same-is (sym (below-unfolds t ranked path n e s))));
    }

    leaf : (n : N) → sound n → t.rank n ≤ 0 → t.children n ≡ []
    leaf n s low = by (t.children n) (ranked.rank_falls n s)
      where
        by : (cs : List N) → AllByRecursion (λ c. t.rank c < t.rank n) cs → cs ≡ []
        by [] a = refl
        by (c ∷ cs) a = absurd (omega (arith, a.0))

    module _ (levels : ℕ) (made : List ℕ → N → ℕ → List Note) (each : (path : List ℕ) (c : N) (held : ℕ) → at_path t path ≡ Some c → sound c → t.rank c ≤ levels → path ≢ [] → Part path held (made path c held)) where
      kids-part : (path : List ℕ) (n : N) → at_path t path ≡ Some n → (k : ℕ) (cs : List N) (held : ℕ) → drop k (t.children n) ≡ cs → AllByRecursion sound cs → AllByRecursion (λ c. t.rank c ≤ levels) cs → Kids path k cs held (in_turn visited_worth made path k cs held)
      kids-part path n e k [] held d s r = record {
        is_span = let same : k ≡ k + 0 = omega arith in subst (λ h. IsSpan path k h []) same (span-none path k k);
        is_made = made-nothing held;
        all_covered = record { weighs = λ w. refl };
      }
      kids-part path n e k (c ∷ cs) held d s r =
          let first = made (path ++ k ∷ []) c held in
          let part = each (path ++ k ∷ []) c held (child-at t path n e k c cs d) s.0 r.0 (push_not_nil path k) in
          let rest = kids-part path n e (suc k) cs (max held (visited_worth first)) (drop_from_drop (t.children n) k c cs d) s.1 r.1 in
          let others = in_turn visited_worth made path (suc k) cs (max held (visited_worth first)) in
          record {
            is_span = let same : suc k + length cs ≡ k + suc (length cs) = omega arith in subst (λ h. IsSpan path k h (first ++ others)) same
                (span-append path k (suc k) (suc k) (suc k + length cs) first others (omega arith) (omega arith) (omega arith) (span-block path k first part.is_block) rest.is_span);
            is_made = made-append held first others part.is_made rest.is_made;
            all_covered = same-trans (covered_paths-append t first others) (same-append part.all_covered rest.all_covered);
          }

    -- a child, which is cut or visited
    step-part : (levels : ℕ) → ((path : List ℕ) (n : N) (held : ℕ) → at_path t path ≡ Some n → sound n → t.rank n ≤ levels → (path ≢ [] → limit gap held < t.bound n) → Part path held (visit_notes t gap levels path n held)) → (p : List ℕ) (c : N) (h : ℕ) → at_path t p ≡ Some c → sound c → t.rank c ≤ levels → p ≢ [] → Part p h (if nat_le (t.bound c) (limit gap h) then cut p (t.bound c) h ∷ [] else visit_notes t gap levels p c h)
    step-part levels visit p c h at sc rc ne = by (nat_le (t.bound c) (limit gap h)) refl
      where
        by : (v : Bool) → nat_le (t.bound c) (limit gap h) ≡ v → Part p h (if v then cut p (t.bound c) h ∷ [] else visit_notes t gap levels p c h)
        by true x = cut-part p c h at ne (leb-true (t.bound c) (limit gap h) x)
        by false x = visit p c h at sc rc (λ q. let above : limit gap h < t.bound c = leb-false (t.bound c) (limit gap h) x in above)

    pub visit-part : (levels : ℕ) (path : List ℕ) (n : N) (held : ℕ) → at_path t path ≡ Some n → sound n → t.rank n ≤ levels → (path ≢ [] → limit gap held < t.bound n) → Part path held (visit_notes t gap levels path n held)
    visit-part zero path n held e s low over =
        close-part path n held [] e s over
        (subst (λ cs. Kids path 0 cs (max held (t.worth n)) []) (sym (leaf n s low))
        (record { is_span = span-none path 0 0; is_made = made-nothing (max held (t.worth n)); all_covered = record { weighs = λ w. refl } }))
    visit-part (suc levels) path n held e s low over =
        close-part path n held (in_turn visited_worth (λ p c h. if nat_le (t.bound c) (limit gap h) then cut p (t.bound c) h ∷ [] else visit_notes t gap levels p c h) path 0 (t.children n) (max held (t.worth n))) e s over
        (kids-part levels (λ p c h. if nat_le (t.bound c) (limit gap h) then cut p (t.bound c) h ∷ [] else visit_notes t gap levels p c h) (step-part levels (visit-part levels)) path n e 0 (t.children n) (max held (t.worth n)) refl (ranked.stays_sound n s)
        (AllByRecursion-weaker (λ c. t.rank c < t.rank n) (λ c. t.rank c ≤ levels) (λ c l. omega (arith, l, low)) (t.children n) (ranked.rank_falls n s)))
