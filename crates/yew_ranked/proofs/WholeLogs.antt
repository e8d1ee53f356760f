-- The logs of all workers of an ordered search are those of a whole search, and one of them has visited the first best node.
use Rattle.std.proofs.Common.{◌≡◌, ℕ, suc, ◌/◌, ◌^◌, ◌<◌, ◌≤◌, ◌⊎◌, inl, inr, ⊎_elim, Option, Some, None, option_and_then, All, max, List, [], ◌∷◌, ◌++◌, map, length, refl, ap, ap₂, sym, subst, ◌∙◌, append_assoc, arith}
use Rattle.std.specs.Prelude.{IfSome}
use Rattle.std.specs.List.{AllByRecursion, Contains, flat_map}
use Rattle.std.proofs.lemmas.List.{map-append, length-append}
use Rattle.std.proofs.lemmas.List.Concat.{flat_map-append}
use Rattle.std.proofs.lemmas.List.Elements.{All-contains, All-from_recursion, Contains-append_left, Contains-append_right}
use Rattle.yew_laws.specs.Bag.{SameBag}
use Rattle.yew_laws.specs.Cover.{Cover}
use Rattle.yew_laws.specs.Greatest.{first_best}
use Rattle.yew_laws.specs.PathValue.{PathValue}
use Rattle.yew_laws.specs.SearchTree.{SearchTree, at_path, worth_at, bound_at}
use Rattle.yew_laws.specs.Tree.{IsRanked, IsBounded}
use Rattle.yew_laws.proofs.Bags.{same-is, same-trans}
use Rattle.yew_laws.proofs.Members.{AllByRecursion-append, AllByRecursion-map, AllByRecursion-weaker, Contains-head, Contains-tail, Contains-map}
use Rattle.yew_log.specs.Attained.{Attained, limit}
use Rattle.yew_log.specs.Groups.{in_order}
use Rattle.yew_log.specs.Items.{ranked_key}
use Rattle.yew_log.specs.Lawful.{LawfulLog, tasks_of}
use Rattle.yew_log.specs.Notes.{Note, taken, visited, cut, spawned, handed, ended, Judgement, judgement_in, visits, cuts, values, maximum, visit_in, taken_in, taken_paths, sent_paths, visited_paths, cut_paths}
use Rattle.yew_log.specs.Places.{AtEach}
use Rattle.yew_log.specs.Segment.{Segment, entries, entries_in, IsSegment}
use Rattle.yew_log.specs.WholeSearch.{AreLogs, IsBestVisit, joined}
use Rattle.yew_log.proofs.Growth.{worths-append}
use Rattle.yew_walk.specs.Hands.{numbers_of}
use Rattle.yew_walk.specs.WorkerLogs.{KeyedSegment, segments_of}
use Rattle.yew_walk.proofs.KeyOrder.{limit-none}
use Rattle.yew_walk.proofs.PlainLogs.{maximum-one}
use Rattle.yew_ranked.specs.Frontier.{frontier_log, frontier_segment}
use Rattle.yew_ranked.specs.RankedSearch.{RankedJudgement, key_of_judgement, plain_judgement, IsOfferedBefore, IsRankedSearch}
use Rattle.yew_ranked.proofs.AllVisits.{all-contains, offers-keys, visits_by, seat_by}
use Rattle.yew_ranked.proofs.FirstBestVisits.{visit-at_most, first-best-visit}
use Rattle.yew_ranked.proofs.FrontierLawful.{frontier-maximum}
use Rattle.yew_ranked.proofs.HeardOthers.{joined_with, joined-lists}
use Rattle.yew_ranked.proofs.OrderedLogs.{first-lawful, others-lawful}
use Rattle.yew_ranked.proofs.RankedWalks.{contains-of}
use Rattle.yew_ranked.proofs.WholeCover.{all_walks, all_notes, whole-visits, whole-cuts, whole-segments, whole-tasks, whole-cover, whole-search}
use Rattle.yew_ranked.proofs.WholeVisits.{part, ArePartsOf, walks_by, visits-plain_by, all_visits, all_cuts, all-worths, all-bounds, began}
use Rattle.yew_ranked.proofs.WorkerVisits.{on-read}

-- the greatest of numbers is 0 or one of them
maximum-found : (ns : List ℕ) → (maximum ns ≡ 0) ⊎ Contains ns (maximum ns)
maximum-found [] = inl refl
maximum-found (n ∷ ns) = by (order (maximum ns) n) (maximum-found ns)
  where
    order : (a b : ℕ) → (a ≤ b) ⊎ (b < a)
    order a b = grind arith

    by : (maximum ns ≤ n) ⊎ (n < maximum ns) → (maximum ns ≡ 0) ⊎ Contains ns (maximum ns) → (max n (maximum ns) ≡ 0) ⊎ Contains (n ∷ ns) (max n (maximum ns))
    by (inl le) rest = let e : n ≡ max n (maximum ns) = omega (arith, le) in inr (subst (λ x. Contains (n ∷ ns) x) e (Contains-head n ns))
    by (inr more) (inl z) = inl (omega (arith, more, z))
    by (inr more) (inr c) = let e : maximum ns ≡ max n (maximum ns) = omega (arith, more) in inr (subst (λ x. Contains (n ∷ ns) x) e (Contains-tail n ns (maximum ns) c))

-- a held value is 0, or the worth of one of these visits
abbrev IsWorthOf : List Judgement → Judgement → Type 0
IsWorthOf vs j = (j.held ≡ 0) ⊎ Contains (values vs) j.held

held-found : (all before notes : List Note) → before ++ notes ≡ all → AtEach (λ b n a. AllByRecursion (λ (j : Judgement). j.held ≡ maximum (values (visits b))) (judgement_in n)) before notes
    → AllByRecursion (IsWorthOf (visits all)) (visits notes)
held-found all before [] is each = tt
held-found all before (visited p w h ∷ ns) is each = (
  ⊎_elim (λ (z : maximum (values (visits before)) ≡ 0). inl (each.0.0 ∙ z))
      (λ (c : Contains (values (visits before)) (maximum (values (visits before)))).
      inr (subst (λ (l : List ℕ). Contains l h) (sym (worths-append before (visited p w h ∷ ns)) ∙ ap (λ (l : List Note). values (visits l)) is)
      (subst (λ x. Contains (values (visits before) ++ values (visits (visited p w h ∷ ns))) x) (sym each.0.0) (Contains-append_left (values (visits before)) (values (visits (visited p w h ∷ ns))) (maximum (values (visits before))) c))))
      (maximum-found (values (visits before))),
  held-found all (before ++ visited p w h ∷ []) ns (append_assoc before (visited p w h ∷ []) ns ∙ is) each.1,
)
held-found all before (cut p b h ∷ ns) is each = held-found all (before ++ cut p b h ∷ []) ns (append_assoc before (cut p b h ∷ []) ns ∙ is) each.1
held-found all before (taken p ∷ ns) is each = held-found all (before ++ taken p ∷ []) ns (append_assoc before (taken p ∷ []) ns ∙ is) each.1
held-found all before (spawned p ∷ ns) is each = held-found all (before ++ spawned p ∷ []) ns (append_assoc before (spawned p ∷ []) ns ∙ is) each.1
held-found all before (handed p ∷ ns) is each = held-found all (before ++ handed p ∷ []) ns (append_assoc before (handed p ∷ []) ns ∙ is) each.1
held-found all before (ended p ∷ ns) is each = held-found all (before ++ ended p ∷ []) ns (append_assoc before (ended p ∷ []) ns ∙ is) each.1

-- the worth of a key
key-worth : (item value : ℕ) → ranked_key item value / 2 ^ 20 ≡ value
key-worth item value = omega arith

plain-worths : (vs : List RankedJudgement) (u : RankedJudgement) → Contains vs u → Contains (values (map plain_judgement vs)) u.value
plain-worths vs u c = Contains-map (λ (j : Judgement). j.value) (map plain_judgement vs) (plain_judgement u) (Contains-map plain_judgement vs u c)

-- a word that is 0 or a key holds 0 or the worth of a visit
word-worth : (vs : List RankedJudgement) (word : ℕ) → (word ≡ 0) ⊎ ((u : RankedJudgement) × Contains vs u × (key_of_judgement u ≡ word)) → (word / 2 ^ 20 ≡ 0) ⊎ Contains (values (map plain_judgement vs)) (word / 2 ^ 20)
word-worth vs word (inl z) = inl (omega (arith, z))
word-worth vs word (inr (u, c, e)) = inr (subst (λ x. Contains (values (map plain_judgement vs)) x) (sym (key-worth u.item u.value) ∙ ap (λ x. x / 2 ^ 20) e) (plain-worths vs u c))

module _ {N : Type 0} (t : SearchTree N) (levels : ℕ) where
  -- what was taken are the tasks of the segments
  taken-tasks : (segments : List Segment) → AllByRecursion (IsSegment t) segments → taken_paths (entries segments) ≡ tasks_of segments
  taken-tasks [] each = refl
  taken-tasks (x ∷ xs) each =
      flat_map-append taken_in (entries_in x) (entries xs) ∙ ap₂ (λ (a b : List (List ℕ)). a ++ b) (ap (λ (l : List (List ℕ)). x.task ∷ l) each.0.untaken) (taken-tasks xs each.1)

  -- the words of visits were read
  abbrev reads : List (part t levels) → List ℕ
  reads ws = flat_map (λ (w : part t levels). w.now.read) ws

  visits-read : (ws : List (part t levels)) → AllByRecursion (λ (j : RankedJudgement). Contains (reads ws) j.word) (flat_map (visits_by t (suc levels)) ws)
  visits-read [] = tt
  visits-read (w ∷ ws) =
      AllByRecursion-append (λ (j : RankedJudgement). Contains (reads (w ∷ ws)) j.word) (visits_by t (suc levels) w) (flat_map (visits_by t (suc levels)) ws)
      (AllByRecursion-weaker (λ (j : RankedJudgement). Contains w.now.read j.word) (λ (j : RankedJudgement). Contains (reads (w ∷ ws)) j.word) (λ j c. Contains-append_left w.now.read (reads ws) j.word c)
      (visits_by t (suc levels) w) (on-read t (suc levels) w.places w.walks w.first w.now w.are_walks w.goes).0)
      (AllByRecursion-weaker (λ (j : RankedJudgement). Contains (reads ws) j.word) (λ (j : RankedJudgement). Contains (reads (w ∷ ws)) j.word) (λ j c. Contains-append_right w.now.read (reads ws) j.word c)
      (flat_map (visits_by t (suc levels)) ws) (visits-read ws))

  -- the entries of one worker's walks
  abbrev pub notes_by : part t levels → List Note
  notes_by w = entries (segments_of w.walks)

  joined-walks : (ws : List (part t levels)) → joined (map notes_by ws) ≡ entries (segments_of (flat_map (walks_by t levels) ws))
  joined-walks [] = refl
  joined-walks (w ∷ ws) =
      ap (λ l. notes_by w ++ l) (joined-walks ws)
      ∙ (sym (flat_map-append entries_in (segments_of w.walks) (segments_of (flat_map (walks_by t levels) ws))) ∙ ap entries (sym (map-append (λ (k : KeyedSegment). k.segment) w.walks (flat_map (walks_by t levels) ws))))

  length-map : (ws : List (part t levels)) → length (map notes_by ws) ≡ length ws
  length-map [] = refl
  length-map (w ∷ ws) = ap suc (length-map ws)

  module _ {sound : N → Type 0} (ranked : IsRanked sound t.children t.rank) (bounded : IsBounded sound t.children t.worth t.bound) (root : sound t.root)
      (fv fc : List RankedJudgement) (w : part t levels) (ws : List (part t levels)) (are : ArePartsOf t levels fv fc w ws) where
    abbrev whole : List RankedJudgement
    whole = all_visits t levels ranked root fv fc w ws are

    abbrev whole_cuts : List RankedJudgement
    whole_cuts = all_cuts t levels ranked root fv fc w ws are

    abbrev notes : List Note
    notes = all_notes t levels ranked root fv fc w ws are

    -- the logs, the first one's with the walk above the depth
    abbrev pub worker_logs : List (List Note)
    worker_logs = (frontier_log t levels ++ notes_by w) ∷ map notes_by ws

    joined-logs : joined worker_logs ≡ notes
    joined-logs = append_assoc (frontier_log t levels) (notes_by w) (joined (map notes_by ws)) ∙ ap (λ l. frontier_log t levels ++ l) (joined-walks (w ∷ ws))

    vs-are : map plain_judgement whole ≡ visits notes
    vs-are = whole-visits t levels ranked root fv fc w ws are

    cs-are : map plain_judgement whole_cuts ≡ cuts notes
    cs-are = whole-cuts t levels ranked root fv fc w ws are

    search : IsRankedSearch t whole whole_cuts
    search = whole-search t levels ranked root fv fc w ws are

    -- one of the logs has visited the first best node
    pub visits-best : (path : Option PathValue) → numbers_of path ≡ first_best t → IfSome (option_and_then (λ (p : PathValue). at_path t p.numbers) path) (IsBestVisit t notes)
    visits-best None e = tt
    visits-best (Some p) e = by (at_path t p.numbers) refl
      where
        by : (node : Option N) → at_path t p.numbers ≡ node → IfSome node (IsBestVisit t notes)
        by None there = tt
        by (Some n) there =
            let found = first-best-visit t ranked root bounded search p.numbers (sym e) in
            let v = found.visit in
            let low = AllByRecursion-map (λ x. x ≤ v.value) (λ (j : Judgement). j.value) (map plain_judgement whole)
            (AllByRecursion-map (λ (j : Judgement). j.value ≤ v.value) plain_judgement whole
            (all-contains (λ (u : RankedJudgement). u.value ≤ v.value) whole (λ u a. let le = visit-at_most t ranked root bounded search u a in let g = found.worth_is in omega (arith, le, g)))) in
            record {
              visit = plain_judgement v;
              visited = subst (λ (js : List Judgement). Contains js (plain_judgement v)) vs-are (Contains-map plain_judgement whole v found.among);
              node_there = ap (at_path t) found.path_is ∙ there;
              greatest = maximum-one (values (map plain_judgement whole)) v.value (All-from_recursion (λ x. x ≤ v.value) (values (map plain_judgement whole)) low) (inr (plain-worths whole v found.among))
                  ∙ ap (λ (js : List Judgement). maximum (values js)) vs-are;
            }

    module _ (reads_offered : All (λ x. (x ≡ 0) ⊎ Contains (joined_with (seat_by t (suc levels)) w.now ws).offered x) (joined_with (seat_by t (suc levels)) w.now ws).read) where
      -- a word that was read is 0 or the key of a visit
      word-cause : (x : ℕ) → Contains (reads (w ∷ ws)) x → (x ≡ 0) ⊎ ((u : RankedJudgement) × Contains whole u × (key_of_judgement u ≡ x))
      word-cause x c =
          let lists = joined-lists (seat_by t (suc levels)) w.now ws in
          let all = joined_with (seat_by t (suc levels)) w.now ws in
          let cause = All-contains (λ x. (x ≡ 0) ⊎ Contains all.offered x) all.read x reads_offered (subst (λ (l : List ℕ). Contains l x) (sym lists.0) c) in
          ⊎_elim (λ (z : x ≡ 0). inl z)
          (λ (o : Contains (joined_with (seat_by t (suc levels)) w.now ws).offered x).
          ⊎_elim
          (λ (f : Contains (map key_of_judgement fv) x). let u = contains-of key_of_judgement fv x f in inr (u.0, Contains-append_left fv (flat_map (visits_by t (suc levels)) (w ∷ ws)) u.0 u.1, u.2))
          (λ (f : Contains (map key_of_judgement (flat_map (visits_by t (suc levels)) (w ∷ ws))) x).
          let u = contains-of key_of_judgement (flat_map (visits_by t (suc levels)) (w ∷ ws)) x f in inr (u.0, Contains-append_right fv (flat_map (visits_by t (suc levels)) (w ∷ ws)) u.0 u.1, u.2))
          (offers-keys t (suc levels) ranked root fv (w ∷ ws) (began t levels ranked root fv fc w ws are) x (subst (λ (l : List ℕ). Contains l x) lists.1 o))) cause

      attained-visits : AllByRecursion (IsWorthOf (visits notes)) (visits notes)
      attained-visits =
          subst (AllByRecursion (IsWorthOf (visits notes))) (sym (flat_map-append visit_in (frontier_log t levels) (entries (segments_of (all_walks t levels ranked root fv fc w ws are)))))
          (AllByRecursion-append (IsWorthOf (visits notes)) (visits (frontier_log t levels)) (visits (entries (segments_of (all_walks t levels ranked root fv fc w ws are))))
          (AllByRecursion-weaker (IsWorthOf (visits (frontier_log t levels))) (IsWorthOf (visits notes))
          (λ j o. ⊎_elim (λ (z : j.held ≡ 0). inl z) (λ (c : Contains (values (visits (frontier_log t levels))) j.held).
          inr (subst (λ (l : List ℕ). Contains l j.held) (sym (worths-append (frontier_log t levels) (entries (segments_of (all_walks t levels ranked root fv fc w ws are)))))
          (Contains-append_left (values (visits (frontier_log t levels))) (values (visits (entries (segments_of (all_walks t levels ranked root fv fc w ws are))))) j.held c))) o)
          (visits (frontier_log t levels)) (held-found (frontier_log t levels) [] (frontier_log t levels) refl (frontier-maximum t ranked root levels)))
          (subst (AllByRecursion (IsWorthOf (visits notes))) (visits-plain_by t levels (w ∷ ws))
          (AllByRecursion-map (IsWorthOf (visits notes)) plain_judgement (flat_map (visits_by t (suc levels)) (w ∷ ws))
          (AllByRecursion-weaker (λ (j : RankedJudgement). Contains (reads (w ∷ ws)) j.word) (λ (j : RankedJudgement). IsWorthOf (visits notes) (plain_judgement j))
          (λ j c. subst (λ (js : List Judgement). IsWorthOf js (plain_judgement j)) vs-are (word-worth whole j.word (word-cause j.word c)))
          (flat_map (visits_by t (suc levels)) (w ∷ ws)) (visits-read (w ∷ ws))))))

      attained-cuts : AllByRecursion (IsWorthOf (visits notes)) (cuts notes)
      attained-cuts =
          subst (AllByRecursion (IsWorthOf (visits notes))) cs-are
          (AllByRecursion-map (IsWorthOf (visits notes)) plain_judgement whole_cuts
          (AllByRecursion-weaker (λ (c : RankedJudgement). (c.word ≡ 0) ⊎ IsOfferedBefore whole c) (λ (c : RankedJudgement). IsWorthOf (visits notes) (plain_judgement c))
          (λ c o. subst (λ (js : List Judgement). IsWorthOf js (plain_judgement c)) vs-are (word-worth whole c.word
          (⊎_elim (λ (z : c.word ≡ 0). inl z) (λ (b : IsOfferedBefore whole c). inr (b.visit, b.among, sym b.word_is)) o))) whole_cuts search.offered))

      -- the cause of each cut
      pub whole-attained : Attained t 0 (visits notes) (cuts notes)
      whole-attained = record {
        worths = subst (AllByRecursion (λ (v : Judgement). worth_at t v.path ≡ Some v.value)) vs-are
            (AllByRecursion-map (λ (v : Judgement). worth_at t v.path ≡ Some v.value) plain_judgement whole (all-worths t levels ranked root fv fc w ws are));
        bounds = subst (AllByRecursion (λ (c : Judgement). bound_at t c.path ≡ Some c.value)) cs-are
            (AllByRecursion-map (λ (c : Judgement). bound_at t c.path ≡ Some c.value) plain_judgement whole_cuts (all-bounds t levels ranked root fv fc w ws are));
        permitted = subst (AllByRecursion (λ (c : Judgement). c.value ≤ limit 0 c.held)) cs-are
            (AllByRecursion-map (λ (c : Judgement). c.value ≤ limit 0 c.held) plain_judgement whole_cuts
            (AllByRecursion-weaker (λ (c : RankedJudgement). key_of_judgement c ≤ c.word) (λ (c : RankedJudgement). c.value ≤ limit 0 (c.word / 2 ^ 20))
            (λ c le. let same = limit-none (c.word / 2 ^ 20) in let low = below c.item c.value c.word le in omega (arith, same, low)) whole_cuts search.permitted));
        attained = AllByRecursion-append (IsWorthOf (visits notes)) (visits notes) (cuts notes) attained-visits attained-cuts;
      }
        where
          below : (item value word : ℕ) → ranked_key item value ≤ word → value ≤ word / 2 ^ 20
          below item value word le = omega (arith, le)

      others-each : (workers : ℕ) (before : List (List Note)) (vs : List (part t levels)) → 0 < length before → AllByRecursion (λ (v : part t levels). workers ≡ 1 → ⊥) vs
          → AtEach (λ b log a. LawfulLog t 0 (in_order (suc levels)) workers (suc (length b)) log) before (map notes_by vs)
      others-each workers before [] some several = tt
      others-each workers before (v ∷ vs) some several = (
        others-lawful t levels ranked root workers (suc (length before)) v.places v.walks v.first v.now v.are_walks v.rising v.goes (λ e. omega (arith, some, e)) several.0,
        others-each workers (before ++ notes_by v ∷ []) vs (let l = length-append before (notes_by v ∷ []) in omega (arith, l)) several.1,
      )

      severals : (workers : ℕ) (vs : List (part t levels)) → suc (length vs) ≡ workers → AllByRecursion (λ (v : part t levels). workers ≡ 1 → ⊥) vs
      severals workers [] e = tt
      severals workers (v ∷ vs) e = ((λ one. omega (arith, e, one)), same vs)
        where
          same : (us : List (part t levels)) → AllByRecursion (λ (u : part t levels). workers ≡ 1 → ⊥) us
          same [] = tt
          same (u ∷ us) = ((λ one. omega (arith, e, one)), same us)

      -- the logs are those of a whole search
      pub whole-logs : (workers : ℕ) (solution : Option N) → suc (length ws) ≡ workers → (workers ≡ 1 → w.first.share ≡ w.first.best.seats) → IfSome solution (IsBestVisit t notes)
          → AreLogs t 0 (in_order (suc levels)) workers worker_logs solution
      whole-logs workers solution count share best = record {
        one_each = ap suc (length-map ws) ∙ count;
        lawful = (
          first-lawful t levels ranked root workers fv w.places w.walks w.first w.now are.visits_are are.judged.in_items are.first_offered w.are_walks w.rising w.goes share,
          others-each workers ((frontier_log t levels ++ notes_by w) ∷ []) ws (omega arith) (severals workers ws count),
        );
        tasks = subst (λ (ns : List Note). SameBag (taken_paths ns) ([] ∷ sent_paths ns)) (sym joined-logs)
            (same-trans (same-is (taken-tasks (frontier_segment t levels ∷ segments_of (all_walks t levels ranked root fv fc w ws are)) (whole-segments t levels ranked root fv fc w ws are)))
            (whole-tasks t levels ranked root fv fc w ws are));
        cover = subst (λ (ns : List Note). Cover t (visited_paths ns) (cut_paths ns)) (sym joined-logs) (whole-cover t levels ranked root fv fc w ws are);
        attained = subst (λ (ns : List Note). Attained t 0 (visits ns) (cuts ns)) (sym joined-logs) whole-attained;
        best = subst (λ (ns : List Note). IfSome solution (IsBestVisit t ns)) (sym joined-logs) best;
      }
