-- All visits and cuts of an ordered search, those of the walk above the depth first: they are a search by ranked keys.
use Rattle.std.proofs.Common.{◌≡◌, ℕ, suc, ◌^◌, ◌<◌, ◌≤◌, ◌⊎◌, inl, inr, ⊎_elim, Bool, true, false, Some, List, [], ◌∷◌, ◌++◌, map, length, refl, ap, ap₂, sym, subst, ◌∙◌, append-nil, arith}
use Rattle.std.specs.Prelude.{IsTrue, slice_get}
use Rattle.std.specs.List.{AllByRecursion, Contains, flat_map, sum_by}
use Rattle.std.proofs.lemmas.List.{map-append}
use Rattle.std.proofs.lemmas.List.Concat.{flat_map-append}
use Rattle.std.proofs.lemmas.List.Elements.{Contains-append_left}
use Rattle.std.proofs.lemmas.List.Sums.{sum_by-append, sum_by-cons}
use Rattle.std.proofs.lemmas.Option.{same_Some}
use Rattle.yew_laws.specs.Bag.{SameBag}
use Rattle.yew_laws.specs.Cover.{Cover}
use Rattle.yew_laws.specs.Order.{comes_before, lies_below}
use Rattle.yew_laws.specs.SearchTree.{SearchTree, worth_at, bound_at, below}
use Rattle.yew_laws.specs.Tree.{IsRanked}
use Rattle.yew_laws.proofs.Members.{AllByRecursion-append, AllByRecursion-weaker}
use Rattle.yew_log.specs.Items.{Item, items_of, IsInItem}
use Rattle.yew_log.specs.Notes.{Judgement, visits, cuts, visit_in, cut_in}
use Rattle.yew_log.specs.Segment.{entries, entries_in}
use Rattle.yew_log.proofs.EntryPlaces.{below-longer}
use Rattle.yew_walk.specs.WorkerLogs.{KeyedSegment, segments_of}
use Rattle.yew_walk.specs.declared.keying.Keying.{Keying}
use Rattle.yew_walk.specs.declared.keying.Keying.TheVariants.{Ranked}
use Rattle.yew_ranked.specs.ClaimSeats.{AreBelow}
use Rattle.yew_ranked.specs.Frontier.{frontier_log}
use Rattle.yew_ranked.specs.FrontierWalk.{AreFrontierJudgements}
use Rattle.yew_ranked.specs.RankedSearch.{RankedJudgement, ranked_paths, key_of_judgement, plain_judgement, ItemsInOrder, IsOfferedBefore, IsRankedSearch}
use Rattle.yew_ranked.specs.Tasks.{Numbered, tasks_of_tree, IsBetween}
use Rattle.yew_ranked.specs.Stations.{AreTaskWalks, IsTaskWalk}
use Rattle.yew_ranked.proofs.AllVisits.{Worked, places_by, last_by, seat_by, visits_by, cuts_by, Began, ApartFrom, found-below, all-contains, all-past, at-item, visits-at, cuts-at, workers-order, workers-permitted, all-causes}
use Rattle.yew_ranked.proofs.ClaimedPlaces.{claimed, PlacesOnce, weight_at, members-once, walked-no_twice}
use Rattle.yew_ranked.proofs.FrontierDepths.{IsAbove, frontier-visits_above, frontier-cuts_above}
use Rattle.yew_ranked.proofs.FrontierLawful.{frontier-segment}
use Rattle.yew_ranked.proofs.HeardOthers.{joined_with, heard-others}
use Rattle.yew_ranked.proofs.ItemPlaces.{in_items-rise, below-splits}
use Rattle.yew_ranked.proofs.PathOrder.{before-both-below}
use Rattle.yew_ranked.proofs.RankedWalks.{all-at, contains-either, in_order-append}
use Rattle.yew_ranked.proofs.TaskRanks.{task-item, task-depth, item-depth}
use Rattle.yew_ranked.proofs.WorkerVisits.{all-unmap, IsAtPlaces, on_visits-plain, on_cuts-plain}

-- a walk as the task that it is of
abbrev pub rank_of : Keying → ℕ
rank_of (Ranked rank) = rank
rank_of _ = 0

abbrev pub task_of : KeyedSegment → Numbered
task_of walk = record { path = walk.segment.task; rank = rank_of walk.keying }

module _ {N : Type 0} (t : SearchTree N) (levels : ℕ) where
  abbrev pub part : Type 0
  part = Worked t (suc levels)

  abbrev tasks : List Numbered
  tasks = tasks_of_tree t (suc levels)

  -- What all workers have done, the first one having walked what lies above the depth: each found no task left, and their seats are joined
  pub record ArePartsOf (fv fc : List RankedJudgement) (w : part) (ws : List part) : Type 0 where
    pub visits_are : map plain_judgement fv ≡ visits (frontier_log t levels)
    pub cuts_are : map plain_judgement fc ≡ cuts (frontier_log t levels)
    pub judged : AreFrontierJudgements t (suc levels) fv fc
    pub few : length (items_of t (suc levels)) ≤ 2 ^ 20
    pub first_offered : w.first.offered ≡ map key_of_judgement fv
    pub others_offered : AllByRecursion (λ (v : part). v.first.offered ≡ []) ws
    pub count : ℕ
    pub claims_are : AreBelow count (flat_map (claimed (places_by t (suc levels)) (last_by t (suc levels))) (w ∷ ws))
    pub none_heard : AllByRecursion (λ x. x ≡ 0) (joined_with (seat_by t (suc levels)) w.now ws).heard

  -- all walks, in order
  abbrev pub walks_by : part → List KeyedSegment
  walks_by w = w.walks

  -- the walks of a worker are of the tasks at its places
  task-is : (task : Numbered) (walk : KeyedSegment) → IsTaskWalk t task walk → task_of walk ≡ task
  task-is task walk is = ap₂ (λ (p : List ℕ) (r : ℕ). record { path = p; rank = r }) is.task_is (ap rank_of is.keys)

  walks-weigh : (weight : Numbered → ℕ) (places : List ℕ) (walks : List KeyedSegment) → AreTaskWalks t tasks places walks → sum_by weight (map task_of walks) ≡ sum_by (λ p. weight_at weight (slice_get tasks p)) places
  walks-weigh weight [] [] are = refl
  walks-weigh weight [] (w ∷ ws) are = absurd are
  walks-weigh weight (p ∷ ps) [] are = absurd are
  walks-weigh weight (p ∷ ps) (w ∷ ws) are =
      let rest = walks-weigh weight ps ws are.1 in
      let a = sum_by-cons weight (task_of w) (map task_of ws) in
      let b = sum_by-cons (λ q. weight_at weight (slice_get tasks q)) p ps in
      let c = ap (weight_at weight) are.0.1 in
      let d = ap weight (task-is are.0.0 w are.0.2) in omega arith

  parts-weigh : (weight : Numbered → ℕ) (ws : List part) → sum_by weight (map task_of (flat_map walks_by ws)) ≡ sum_by (λ p. weight_at weight (slice_get tasks p)) (flat_map (places_by t (suc levels)) ws)
  parts-weigh weight [] = refl
  parts-weigh weight (w ∷ ws) =
      let rest = parts-weigh weight ws in
      let one = walks-weigh weight w.places w.walks w.are_walks in
      let a = ap (sum_by weight) (map-append task_of w.walks (flat_map walks_by ws)) in
      let b = sum_by-append weight (map task_of w.walks) (map task_of (flat_map walks_by ws)) in
      let c = sum_by-append (λ p. weight_at weight (slice_get tasks p)) w.places (flat_map (places_by t (suc levels)) ws) in omega arith

  -- all tasks of the list were walked, each once
  pub tasks-walked : (count : ℕ) (w : part) (ws : List part) → AreBelow count (flat_map (claimed (places_by t (suc levels)) (last_by t (suc levels))) (w ∷ ws)) → SameBag (map task_of (flat_map walks_by (w ∷ ws))) tasks
  tasks-walked count w ws below = record {
    weighs = λ weight. parts-weigh weight (w ∷ ws) ∙ members-once (places_by t (suc levels)) (last_by t (suc levels)) tasks count w ws (all-past t (suc levels) (w ∷ ws)) below weight;
  }

  -- each of these walks is that of a task
  abbrev pub IsSomeWalk : KeyedSegment → Type 0
  IsSomeWalk w = (task : Numbered) × IsTaskWalk t task w

  some-walks : (places : List ℕ) (walks : List KeyedSegment) → AreTaskWalks t tasks places walks → AllByRecursion IsSomeWalk walks
  some-walks [] [] are = tt
  some-walks [] (w ∷ ws) are = absurd are
  some-walks (p ∷ ps) [] are = absurd are
  some-walks (p ∷ ps) (w ∷ ws) are = ((are.0.0, are.0.2), some-walks ps ws are.1)

  pub all-walks : (ws : List part) → AllByRecursion IsSomeWalk (flat_map walks_by ws)
  all-walks [] = tt
  all-walks (w ∷ ws) = AllByRecursion-append IsSomeWalk w.walks (flat_map walks_by ws) (some-walks w.places w.walks w.are_walks) (all-walks ws)

  -- the visits and the cuts of all workers, as their logs have them
  pub visits-plain_by : (ws : List part) → map plain_judgement (flat_map (visits_by t (suc levels)) ws) ≡ visits (entries (segments_of (flat_map walks_by ws)))
  visits-plain_by [] = refl
  visits-plain_by (w ∷ ws) =
      map-append plain_judgement (visits_by t (suc levels) w) (flat_map (visits_by t (suc levels)) ws)
      ∙ (ap₂ (λ (a b : List Judgement). a ++ b) (on_visits-plain t (suc levels) w.places w.walks w.first w.now w.are_walks w.goes) (visits-plain_by ws)
      ∙ sym (ap (λ ss. visits (entries ss)) (map-append (λ (k : KeyedSegment). k.segment) w.walks (flat_map walks_by ws))
      ∙ (ap visits (flat_map-append entries_in (segments_of w.walks) (segments_of (flat_map walks_by ws))) ∙ flat_map-append visit_in (entries (segments_of w.walks)) (entries (segments_of (flat_map walks_by ws))))))

  pub cuts-plain_by : (ws : List part) → map plain_judgement (flat_map (cuts_by t (suc levels)) ws) ≡ cuts (entries (segments_of (flat_map walks_by ws)))
  cuts-plain_by [] = refl
  cuts-plain_by (w ∷ ws) =
      map-append plain_judgement (cuts_by t (suc levels) w) (flat_map (cuts_by t (suc levels)) ws)
      ∙ (ap₂ (λ (a b : List Judgement). a ++ b) (on_cuts-plain t (suc levels) w.places w.walks w.first w.now w.are_walks w.goes) (cuts-plain_by ws)
      ∙ sym (ap (λ ss. cuts (entries ss)) (map-append (λ (k : KeyedSegment). k.segment) w.walks (flat_map walks_by ws))
      ∙ (ap cuts (flat_map-append entries_in (segments_of w.walks) (segments_of (flat_map walks_by ws))) ∙ flat_map-append cut_in (entries (segments_of w.walks)) (entries (segments_of (flat_map walks_by ws))))))

  -- the values of all visits and cuts of walks
  walks-valued : (walks : List KeyedSegment) → AllByRecursion IsSomeWalk walks
      → AllByRecursion (λ (v : Judgement). worth_at t v.path ≡ Some v.value) (visits (entries (segments_of walks))) × AllByRecursion (λ (c : Judgement). bound_at t c.path ≡ Some c.value) (cuts (entries (segments_of walks)))
  walks-valued [] a = (tt, tt)
  walks-valued (w ∷ ws) a =
      let rest = walks-valued ws a.1 in
      let valued = a.0.1.is_segment.valued in (
        subst (AllByRecursion (λ (v : Judgement). worth_at t v.path ≡ Some v.value)) (sym (flat_map-append visit_in (entries_in w.segment) (entries (segments_of ws))))
            (AllByRecursion-append (λ (v : Judgement). worth_at t v.path ≡ Some v.value) (visits w.segment.body) (visits (entries (segments_of ws))) valued.worths rest.0),
        subst (AllByRecursion (λ (c : Judgement). bound_at t c.path ≡ Some c.value)) (sym (flat_map-append cut_in (entries_in w.segment) (entries (segments_of ws))))
            (AllByRecursion-append (λ (c : Judgement). bound_at t c.path ≡ Some c.value) (cuts w.segment.body) (cuts (entries (segments_of ws))) valued.bounds rest.1),
      )

  module _ {sound : N → Type 0} (ranked : IsRanked sound t.children t.rank) (root : sound t.root)
      (fv fc : List RankedJudgement) (w : part) (ws : List part) (are : ArePartsOf fv fc w ws) where
    abbrev pub all_visits : List RankedJudgement
    all_visits = fv ++ flat_map (visits_by t (suc levels)) (w ∷ ws)

    abbrev pub all_cuts : List RankedJudgement
    all_cuts = fc ++ flat_map (cuts_by t (suc levels)) (w ∷ ws)

    abbrev items : List Item
    items = items_of t (suc levels)

    fv-above : AllByRecursion (λ (v : RankedJudgement). length v.path < suc levels) fv
    fv-above = all-unmap (IsAbove (suc levels)) plain_judgement fv (subst (AllByRecursion (IsAbove (suc levels))) (sym are.visits_are) (frontier-visits_above t levels))

    fc-above : AllByRecursion (λ (c : RankedJudgement). length c.path < suc levels) fc
    fc-above = all-unmap (IsAbove (suc levels)) plain_judgement fc (subst (AllByRecursion (IsAbove (suc levels))) (sym are.cuts_are) (frontier-cuts_above t levels))

    -- a visit above the depth is of no task's item
    apart : ApartFrom t (suc levels) ranked root fv
    apart v a ps j i e =
        let item = task-item t (suc levels) i.place i.task i.there in
        let deep = task-depth t (suc levels) i.place i.task i.there in
        let here = all-at (λ (v : RankedJudgement). IsInItem items v.item v.path) fv v are.judged.in_items a in
        let above = all-at (λ (v : RankedJudgement). length v.path < suc levels) fv v fv-above a in
        let rank = item.rank_is in let f = i.item_is in
        let place : item.place ≡ v.item = omega (arith, rank, e, f) in
        let same : here.item ≡ item.item = same_Some here.item item.item (sym here.found ∙ (ap (slice_get items) (sym place) ∙ item.found)) in
        let long : length here.item.path ≡ suc levels = ap (λ (x : Item). length x.path) same ∙ (ap (λ (p : List ℕ). length p) item.path_is ∙ deep) in
        ⊎_elim (λ (p : v.path ≡ here.item.path). absurd (let l = ap (λ (q : List ℕ). length q) p in omega (arith, l, long, above)))
        (λ (p : IsTrue here.item.is_task × IsTrue (lies_below here.item.path v.path)). absurd (let l = below-longer here.item.path v.path p.1 in omega (arith, l, long, above))) here.within

    -- each visit lies in its item
    all-in_items : AllByRecursion (λ (v : RankedJudgement). IsInItem items v.item v.path) all_visits
    all-in_items =
        AllByRecursion-append (λ (v : RankedJudgement). IsInItem items v.item v.path) fv (flat_map (visits_by t (suc levels)) (w ∷ ws)) are.judged.in_items
        (AllByRecursion-weaker (IsAtPlaces t (suc levels) (flat_map (places_by t (suc levels)) (w ∷ ws))) (λ (v : RankedJudgement). IsInItem items v.item v.path) (at-item t (suc levels) (flat_map (places_by t (suc levels)) (w ∷ ws)))
        (flat_map (visits_by t (suc levels)) (w ∷ ws)) (visits-at t (suc levels) ranked root (w ∷ ws)))

    -- what comes before a node above the depth of tasks
    before-cut : (u c : RankedJudgement) → IsInItem items u.item u.path → IsBetween items c.item c.path → length c.path < suc levels → u.item < c.item → IsTrue (comes_before u.path c.path)
    before-cut u c i between above less = by i.within
      where
        first : IsTrue (comes_before i.item.path c.path)
        first = between.after u.item i.item i.found less

        not_below : (deep : length i.item.path ≡ suc levels) (b : Bool) → lies_below i.item.path c.path ≡ b → b ≡ false
        not_below deep true e = absurd (let l = below-longer i.item.path c.path e in omega (arith, l, deep, above))
        not_below deep false e = refl

        by : (u.path ≡ i.item.path) ⊎ (IsTrue i.item.is_task × IsTrue (lies_below i.item.path u.path)) → IsTrue (comes_before u.path c.path)
        by (inl same) = subst (λ (p : List ℕ). IsTrue (comes_before p c.path)) (sym same) first
        by (inr (is_task, low)) =
            let at = below-splits i.item.path u.path low in
            let deep = item-depth t levels u.item i.item i.found is_task in
            subst (λ (p : List ℕ). IsTrue (comes_before p c.path)) (sym at.is) (subst (λ (q : List ℕ). IsTrue (comes_before (i.item.path ++ at.rest) q)) (append-nil c.path)
            (before-both-below i.item.path c.path at.rest [] first (not_below deep (lies_below i.item.path c.path) refl)))

    cuts-rise : (u c : RankedJudgement) → Contains all_visits u → Contains all_cuts c → u.item < c.item → IsTrue (comes_before u.path c.path)
    cuts-rise u c a b less =
        let i = all-at (λ (v : RankedJudgement). IsInItem items v.item v.path) all_visits u all-in_items a in
        ⊎_elim
        (λ (f : Contains fc c). before-cut u c i (all-at (λ (x : RankedJudgement). IsBetween items x.item x.path) fc c are.judged.between f) (all-at (λ (x : RankedJudgement). length x.path < suc levels) fc c fc-above f) less)
        (λ (f : Contains (flat_map (cuts_by t (suc levels)) (w ∷ ws)) c).
        let k = all-at (IsAtPlaces t (suc levels) (flat_map (places_by t (suc levels)) (w ∷ ws))) (flat_map (cuts_by t (suc levels)) (w ∷ ws)) c (cuts-at t (suc levels) ranked root (w ∷ ws)) f in
        in_items-rise t (suc levels) u.item c.item u.path c.path i (at-item t (suc levels) (flat_map (places_by t (suc levels)) (w ∷ ws)) c k) less)
        (contains-either fc (flat_map (cuts_by t (suc levels)) (w ∷ ws)) c b)

    once : PlacesOnce (places_by t (suc levels)) (w ∷ ws)
    once = walked-no_twice (places_by t (suc levels)) (last_by t (suc levels)) (length tasks) are.count w ws (all-past t (suc levels) (w ∷ ws)) are.claims_are

    pub began : AllByRecursion (Began t (suc levels) ranked root fv) (w ∷ ws)
    began = (
      (λ x c. subst (λ l. Contains l x) are.first_offered c),
      AllByRecursion-weaker (λ (v : part). v.first.offered ≡ []) (Began t (suc levels) ranked root fv)
          (λ v e x c. absurd (let n : Contains {X = ℕ} [] x → ⊥ = λ c. absurd (omega (arith, c.1)) in n (subst (λ l. Contains l x) e c))) ws are.others_offered,
    )

    -- the visits are in order: those above the depth first, and then worker by worker
    pub all-order : ItemsInOrder all_visits
    all-order =
        in_order-append fv (flat_map (visits_by t (suc levels)) (w ∷ ws)) are.judged.in_order (workers-order t (suc levels) ranked root (w ∷ ws) once)
        (all-contains (λ (v : RankedJudgement). AllByRecursion (λ (u : RankedJudgement). v.item ≡ u.item → ⊥) (flat_map (visits_by t (suc levels)) (w ∷ ws))) fv
        (λ v a. AllByRecursion-weaker (IsAtPlaces t (suc levels) (flat_map (places_by t (suc levels)) (w ∷ ws))) (λ (u : RankedJudgement). v.item ≡ u.item → ⊥)
        (λ u i. apart v a (flat_map (places_by t (suc levels)) (w ∷ ws)) u i) (flat_map (visits_by t (suc levels)) (w ∷ ws)) (visits-at t (suc levels) ranked root (w ∷ ws))))

    -- the values of all visits and cuts
    pub all-worths : AllByRecursion (λ (v : RankedJudgement). worth_at t v.path ≡ Some v.value) all_visits
    all-worths =
        AllByRecursion-append (λ (v : RankedJudgement). worth_at t v.path ≡ Some v.value) fv (flat_map (visits_by t (suc levels)) (w ∷ ws))
        (all-unmap (λ (v : Judgement). worth_at t v.path ≡ Some v.value) plain_judgement fv
        (subst (AllByRecursion (λ (v : Judgement). worth_at t v.path ≡ Some v.value)) (sym are.visits_are) (frontier-segment t ranked root levels).valued.worths))
        (all-unmap (λ (v : Judgement). worth_at t v.path ≡ Some v.value) plain_judgement (flat_map (visits_by t (suc levels)) (w ∷ ws))
        (subst (AllByRecursion (λ (v : Judgement). worth_at t v.path ≡ Some v.value)) (sym (visits-plain_by (w ∷ ws))) (walks-valued (flat_map walks_by (w ∷ ws)) (all-walks (w ∷ ws))).0))

    pub all-bounds : AllByRecursion (λ (c : RankedJudgement). bound_at t c.path ≡ Some c.value) all_cuts
    all-bounds =
        AllByRecursion-append (λ (c : RankedJudgement). bound_at t c.path ≡ Some c.value) fc (flat_map (cuts_by t (suc levels)) (w ∷ ws))
        (all-unmap (λ (c : Judgement). bound_at t c.path ≡ Some c.value) plain_judgement fc
        (subst (AllByRecursion (λ (c : Judgement). bound_at t c.path ≡ Some c.value)) (sym are.cuts_are) (frontier-segment t ranked root levels).valued.bounds))
        (all-unmap (λ (c : Judgement). bound_at t c.path ≡ Some c.value) plain_judgement (flat_map (cuts_by t (suc levels)) (w ∷ ws))
        (subst (AllByRecursion (λ (c : Judgement). bound_at t c.path ≡ Some c.value)) (sym (cuts-plain_by (w ∷ ws))) (walks-valued (flat_map walks_by (w ∷ ws)) (all-walks (w ∷ ws))).1))

    -- so they are a search by ranked keys, where they cover the tree
    pub all-search : Cover t (ranked_paths all_visits) (ranked_paths all_cuts) → IsRankedSearch t all_visits all_cuts
    all-search cover = record {
      covered = cover;
      worths = all-worths;
      bounds = all-bounds;
      visit_items = AllByRecursion-weaker (λ (v : RankedJudgement). IsInItem items v.item v.path) (λ (v : RankedJudgement). v.item < 2 ^ 20)
          (λ v i. let l = found-below items v.item i.item i.found in let f = are.few in omega (arith, l, f)) all_visits all-in_items;
      visits_rise = λ u v a b less. in_items-rise t (suc levels) u.item v.item u.path v.path (all-at (λ (x : RankedJudgement). IsInItem items x.item x.path) all_visits u all-in_items a)
          (all-at (λ (x : RankedJudgement). IsInItem items x.item x.path) all_visits v all-in_items b) less;
      cuts_rise = cuts-rise;
      permitted = AllByRecursion-append (λ (c : RankedJudgement). key_of_judgement c ≤ c.word) fc (flat_map (cuts_by t (suc levels)) (w ∷ ws)) are.judged.permitted (workers-permitted t (suc levels) ranked root (w ∷ ws));
      offered = AllByRecursion-append (λ (c : RankedJudgement). (c.word ≡ 0) ⊎ IsOfferedBefore all_visits c) fc (flat_map (cuts_by t (suc levels)) (w ∷ ws))
          (AllByRecursion-weaker (λ (c : RankedJudgement). (c.word ≡ 0) ⊎ IsOfferedBefore fv c) (λ (c : RankedJudgement). (c.word ≡ 0) ⊎ IsOfferedBefore all_visits c)
          (λ c o. ⊎_elim (λ (z : c.word ≡ 0). inl z)
          (λ (b : IsOfferedBefore fv c). inr record { visit = b.visit; among = Contains-append_left fv (flat_map (visits_by t (suc levels)) (w ∷ ws)) b.visit b.among; word_is = b.word_is; earlier = b.earlier }) o)
          fc are.judged.offered)
          (all-causes t (suc levels) ranked root fv apart [] (w ∷ ws) (w ∷ ws) refl once began (heard-others (seat_by t (suc levels)) w ws are.none_heard));
    }
