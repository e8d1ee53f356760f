-- The visits and the cuts of all workers together: they are those of a search by ranked keys, in order.
use Rattle.std.proofs.Common.{◌≡◌, ℕ, zero, suc, ◌<◌, ◌≤◌, ◌⊎◌, inl, inr, ⊎_elim, Some, List, [], ◌∷◌, ◌++◌, map, length, refl, sym, subst, ◌∙◌, append-nil, append_assoc, arith}
use Rattle.std.specs.Prelude.{IsTrue, slice_get}
use Rattle.std.specs.List.{AllByRecursion, Contains, flat_map}
use Rattle.std.proofs.lemmas.List.{map-append}
use Rattle.std.proofs.lemmas.List.Concat.{flat_map-append}
use Rattle.std.proofs.lemmas.List.Elements.{Contains-append_left, Contains-append_right}
use Rattle.std.proofs.lemmas.Option.{none-some}
use Rattle.yew_best.specs.Seats.{SeatView}
use Rattle.yew_laws.specs.Order.{lies_below}
use Rattle.yew_laws.specs.SearchTree.{SearchTree}
use Rattle.yew_laws.specs.Tree.{IsRanked}
use Rattle.yew_laws.proofs.Members.{AllByRecursion-append, AllByRecursion-weaker}
use Rattle.yew_laws.proofs.PathTests.{below-itself}
use Rattle.yew_log.specs.Items.{Item, items_of, IsInItem}
use Rattle.yew_log.specs.Places.{AtEach}
use Rattle.yew_walk.specs.WorkerLogs.{KeyedSegment, SeatGoesOn}
use Rattle.yew_ranked.specs.RankedSearch.{RankedJudgement, key_of_judgement, ItemsInOrder, IsOfferedBefore}
use Rattle.yew_ranked.specs.Tasks.{tasks_of_tree}
use Rattle.yew_ranked.specs.Stations.{AreRising, AreTaskWalks}
use Rattle.yew_ranked.proofs.ClaimedPlaces.{IsPast, PlacesOnce, once-rest, once-between}
use Rattle.yew_ranked.proofs.HeardOthers.{offers, IsOf}
use Rattle.yew_ranked.proofs.RankedWalks.{all-at, IsCause, of_base, of_visit, of_heard, contains-either, contains-of, in_order-append}
use Rattle.yew_ranked.proofs.TaskRanks.{ranks-apart, task-item}
use Rattle.yew_ranked.proofs.WorkerVisits.{all-both, IsAtPlaces, on_visits, on_cuts, on_visits-offered, on_cuts-permitted, on-places, on-order, on-causes}

-- a place of a list is below its length
pub found-below : {X : Type 0} (xs : List X) (k : ℕ) (x : X) → slice_get xs k ≡ Some x → k < length xs
found-below [] k x e = absurd (none-some x e)
found-below (y ∷ ys) zero x e = omega arith
found-below (y ∷ ys) (suc k) x e = let rest = found-below ys k x e in omega arith

-- what holds of each member of flattened lists
pub all-flat_map : {X Y : Type 0} (P : Y → Type 0) (f : X → List Y) (xs : List X) → AllByRecursion (λ x. AllByRecursion P (f x)) xs → AllByRecursion P (flat_map f xs)
all-flat_map P f [] a = tt
all-flat_map P f (x ∷ xs) a = AllByRecursion-append P (f x) (flat_map f xs) a.0 (all-flat_map P f xs a.1)

pub all-contains : {X : Type 0} (P : X → Type 0) (xs : List X) → ((x : X) → Contains xs x → P x) → AllByRecursion P xs
all-contains P xs f = AllByRecursion-weaker (Contains xs) P f xs (by xs)
  where
    by : {X : Type 0} (xs : List X) → AllByRecursion (Contains xs) xs
    by [] = tt
    by (x ∷ xs) = ((0, omega arith, refl), AllByRecursion-weaker (Contains xs) (Contains (x ∷ xs)) (λ y a. (suc a.0, omega (arith, a.1), a.2)) xs (by xs))

-- among more visits
offered-within : (vs us : List RankedJudgement) (c : RankedJudgement) → ((v : RankedJudgement) → Contains vs v → Contains us v) → IsOfferedBefore vs c → IsOfferedBefore us c
offered-within vs us c within o = record { visit = o.visit; among = within o.visit o.among; word_is = o.word_is; earlier = o.earlier }

module _ {N : Type 0} (t : SearchTree N) (depth : ℕ) where
  -- What one worker has done that found no task left: it has walked the tasks at these places, and its last claim was past them
  pub record Worked : Type 0 where
    pub first : SeatView
    pub now : SeatView
    pub places : List ℕ
    pub last : ℕ
    pub walks : List KeyedSegment
    pub are_walks : AreTaskWalks t (tasks_of_tree t depth) places walks
    pub goes : SeatGoesOn t first walks now
    pub rising : AreRising places
    pub past : length (tasks_of_tree t depth) ≤ last

  abbrev pub places_by : Worked → List ℕ
  places_by w = w.places

  abbrev pub last_by : Worked → ℕ
  last_by w = w.last

  abbrev pub seat_by : Worked → SeatView
  seat_by w = w.now

  abbrev pub visits_by : Worked → List RankedJudgement
  visits_by w = on_visits t depth w.places w.walks w.first w.now w.are_walks w.goes

  abbrev pub cuts_by : Worked → List RankedJudgement
  cuts_by w = on_cuts t depth w.places w.walks w.first w.now w.are_walks w.goes

  -- the places that were walked are places of the list of tasks
  walked-there : (places : List ℕ) (walks : List KeyedSegment) → AreTaskWalks t (tasks_of_tree t depth) places walks → AllByRecursion (λ p. p < length (tasks_of_tree t depth)) places
  walked-there [] walks are = tt
  walked-there (p ∷ ps) [] are = absurd are
  walked-there (p ∷ ps) (w ∷ ws) are = (found-below (tasks_of_tree t depth) p are.0.0 are.0.1, walked-there ps ws are.1)

  pub all-past : (ws : List Worked) → AllByRecursion (IsPast places_by last_by (length (tasks_of_tree t depth))) ws
  all-past [] = tt
  all-past (w ∷ ws) = (record { past = w.past; walked = walked-there w.places w.walks w.are_walks }, all-past ws)

  -- a judgement in tasks at some places
  abbrev pub AreAt : List ℕ → List RankedJudgement → Type 0
  AreAt places js = AllByRecursion (IsAtPlaces t depth places) js

  at-within : (ps qs : List ℕ) → ((x : ℕ) → Contains ps x → Contains qs x) → (j : RankedJudgement) → IsAtPlaces t depth ps j → IsAtPlaces t depth qs j
  at-within ps qs within j i = record { place = i.place; among = within i.place i.among; task = i.task; there = i.there; item_is = i.item_is; at = i.at }

  -- at different places the items are different
  items-apart : (ps qs : List ℕ) → ((x : ℕ) → Contains ps x → Contains qs x → ⊥) → (j u : RankedJudgement) → IsAtPlaces t depth ps j → IsAtPlaces t depth qs u → j.item ≡ u.item → ⊥
  items-apart ps qs apart j u i k e =
      let same = ranks-apart t depth i.place k.place i.task k.task i.there k.there (sym i.item_is ∙ (e ∙ k.item_is)) in
      apart i.place i.among (subst (λ x. Contains qs x) (sym same) k.among)

  -- the item of a judgement in a task
  pub at-item : (ps : List ℕ) (j : RankedJudgement) → IsAtPlaces t depth ps j → IsInItem (items_of t depth) j.item j.path
  at-item ps j i =
      let item = task-item t depth i.place i.task i.there in
      let rank = item.rank_is in
      let e = i.item_is in
      let same : item.place ≡ j.item = omega (arith, rank, e) in
      record {
        item = item.item;
        found = subst (λ k. slice_get (items_of t depth) k ≡ Some item.item) same item.found;
        within = by i.at.rest i.task.path item.item i.at.is item.path_is item.is_task;
      }
    where
      by : (rest path : List ℕ) (it : Item) → j.path ≡ path ++ rest → it.path ≡ path → IsTrue it.is_task → (j.path ≡ it.path) ⊎ (IsTrue it.is_task × IsTrue (lies_below it.path j.path))
      by [] path it e f is_task = inl (e ∙ (append-nil path ∙ sym f))
      by (k ∷ r) path it e f is_task = inr (is_task, subst (λ q. IsTrue (lies_below it.path q)) (sym e) (subst (λ q. IsTrue (lies_below q (path ++ k ∷ r))) (sym f) (below-itself path k r)))

  module _ {sound : N → Type 0} (ranked : IsRanked sound t.children t.rank) (root : sound t.root) where
    -- all visits and cuts of workers lie in tasks at their places
    pub visits-at : (ws : List Worked) → AreAt (flat_map places_by ws) (flat_map visits_by ws)
    visits-at [] = tt
    visits-at (w ∷ ws) =
        let all = flat_map places_by (w ∷ ws) in
        AllByRecursion-append (IsAtPlaces t depth all) (visits_by w) (flat_map visits_by ws)
        (AllByRecursion-weaker (IsAtPlaces t depth w.places) (IsAtPlaces t depth all) (at-within w.places all (Contains-append_left w.places (flat_map places_by ws))) (visits_by w)
        (on-places t depth ranked root w.places w.walks w.first w.now w.are_walks w.goes).0)
        (AllByRecursion-weaker (IsAtPlaces t depth (flat_map places_by ws)) (IsAtPlaces t depth all) (at-within (flat_map places_by ws) all (Contains-append_right w.places (flat_map places_by ws))) (flat_map visits_by ws) (visits-at ws))

    pub cuts-at : (ws : List Worked) → AreAt (flat_map places_by ws) (flat_map cuts_by ws)
    cuts-at [] = tt
    cuts-at (w ∷ ws) =
        let all = flat_map places_by (w ∷ ws) in
        AllByRecursion-append (IsAtPlaces t depth all) (cuts_by w) (flat_map cuts_by ws)
        (AllByRecursion-weaker (IsAtPlaces t depth w.places) (IsAtPlaces t depth all) (at-within w.places all (Contains-append_left w.places (flat_map places_by ws))) (cuts_by w)
        (on-places t depth ranked root w.places w.walks w.first w.now w.are_walks w.goes).1)
        (AllByRecursion-weaker (IsAtPlaces t depth (flat_map places_by ws)) (IsAtPlaces t depth all) (at-within (flat_map places_by ws) all (Contains-append_right w.places (flat_map places_by ws))) (flat_map cuts_by ws) (cuts-at ws))

    -- the visits of all workers are in order, one worker after another
    pub workers-order : (ws : List Worked) → PlacesOnce places_by ws → ItemsInOrder (flat_map visits_by ws)
    workers-order [] once = tt
    workers-order (w ∷ ws) once =
        let mine = (on-places t depth ranked root w.places w.walks w.first w.now w.are_walks w.goes).0 in
        in_order-append (visits_by w) (flat_map visits_by ws) (on-order t depth ranked root w.places w.walks w.first w.now w.are_walks w.goes w.rising) (workers-order ws (once-rest places_by w ws once))
        (AllByRecursion-weaker (IsAtPlaces t depth w.places) (λ (v : RankedJudgement). AllByRecursion (λ (u : RankedJudgement). v.item ≡ u.item → ⊥) (flat_map visits_by ws))
        (λ v i. AllByRecursion-weaker (IsAtPlaces t depth (flat_map places_by ws)) (λ (u : RankedJudgement). v.item ≡ u.item → ⊥)
        (λ u k. items-apart w.places (flat_map places_by ws) (once-between places_by [] w ws once) v u i k) (flat_map visits_by ws) (visits-at ws)) (visits_by w) mine)

    -- the cuts of all workers were permitted
    pub workers-permitted : (ws : List Worked) → AllByRecursion (λ (c : RankedJudgement). key_of_judgement c ≤ c.word) (flat_map cuts_by ws)
    workers-permitted [] = tt
    workers-permitted (w ∷ ws) =
        AllByRecursion-append (λ (c : RankedJudgement). key_of_judgement c ≤ c.word) (cuts_by w) (flat_map cuts_by ws)
        (on_cuts-permitted t depth w.places w.walks w.first w.now w.are_walks w.goes) (workers-permitted ws)

    module _ (fv : List RankedJudgement) where
      -- a seat that began with keys of the frontier alone
      abbrev pub Began : Worked → Type 0
      Began w = (x : ℕ) → Contains w.first.offered x → Contains (map key_of_judgement fv) x

      -- what workers have offered are keys of the frontier and of their visits
      pub offers-keys : (ws : List Worked) → AllByRecursion Began ws → (x : ℕ) → Contains (offers seat_by ws) x → Contains (map key_of_judgement fv) x ⊎ Contains (map key_of_judgement (flat_map visits_by ws)) x
      offers-keys [] began x c = absurd (omega (arith, c.1))
      offers-keys (w ∷ ws) began x c = ⊎_elim
          (λ (own : Contains w.now.offered x). ⊎_elim
          (λ (b : Contains w.first.offered x). inl (began.0 x b))
          (λ (v : Contains (map key_of_judgement (visits_by w)) x). inr (joined (Contains-append_left (map key_of_judgement (visits_by w)) (map key_of_judgement (flat_map visits_by ws)) x v)))
          (contains-either w.first.offered (map key_of_judgement (visits_by w)) x (subst (λ l. Contains l x) (on_visits-offered t depth w.places w.walks w.first w.now w.are_walks w.goes) own)))
          (λ (rest : Contains (offers seat_by ws) x). ⊎_elim
          (λ (b : Contains (map key_of_judgement fv) x). inl b)
          (λ (v : Contains (map key_of_judgement (flat_map visits_by ws)) x). inr (joined (Contains-append_right (map key_of_judgement (visits_by w)) (map key_of_judgement (flat_map visits_by ws)) x v)))
          (offers-keys ws began.1 x rest))
          (contains-either w.now.offered (offers seat_by ws) x c)
        where
          joined : Contains (map key_of_judgement (visits_by w) ++ map key_of_judgement (flat_map visits_by ws)) x → Contains (map key_of_judgement (visits_by w ++ flat_map visits_by ws)) x
          joined c = subst (λ l. Contains l x) (sym (map-append key_of_judgement (visits_by w) (flat_map visits_by ws))) c

      -- visits of the frontier are of no task's item
      abbrev pub ApartFrom : Type 0
      ApartFrom = (v : RankedJudgement) → Contains fv v → (ps : List ℕ) (j : RankedJudgement) → IsAtPlaces t depth ps j → v.item ≡ j.item → ⊥

      module _ (apart : ApartFrom) where
        abbrev pub visits_of : List Worked → List RankedJudgement
        visits_of ws = fv ++ flat_map visits_by ws

        abbrev pub IsCaused : List RankedJudgement → RankedJudgement → Type 0
        IsCaused all c = (c.word ≡ 0) ⊎ IsOfferedBefore all c

        -- a cut of one worker, among all
        own-cause : (before : List Worked) (w : Worked) (after : List Worked) → PlacesOnce places_by (before ++ w ∷ after) → AllByRecursion Began (before ++ w ∷ after) → AllByRecursion Began (before ++ after)
            → AllByRecursion (IsOf seat_by (before ++ after)) w.now.heard → (c : RankedJudgement) → IsAtPlaces t depth w.places c → IsCause w.first.offered (visits_by w) w.now.heard c
            → IsCaused (visits_of (before ++ w ∷ after)) c
        own-cause before w after once began others heard c i (of_base x) =
            let u = contains-of key_of_judgement fv c.word (all-at Began (before ++ w ∷ after) w began (Contains-append_right before (w ∷ after) w (0, omega arith, refl)) c.word x) in
            inr record {
              visit = u.0;
              among = Contains-append_left fv (flat_map visits_by (before ++ w ∷ after)) u.0 u.1;
              word_is = sym u.2;
              earlier = λ e. absurd (apart u.0 u.1 w.places c i e);
            }
        own-cause before w after once began others heard c i (of_visit o) =
            inr (offered-within (visits_by w) (visits_of (before ++ w ∷ after)) c
            (λ v a. Contains-append_right fv (flat_map visits_by (before ++ w ∷ after)) v (subst (λ l. Contains l v) (sym (flat_map-append visits_by before (w ∷ after)))
            (Contains-append_right (flat_map visits_by before) (flat_map visits_by (w ∷ after)) v (Contains-append_left (visits_by w) (flat_map visits_by after) v a)))) o)
        own-cause before w after once began others heard c i (of_heard x) = by (all-at (IsOf seat_by (before ++ after)) w.now.heard c.word heard x)
          where
            more : (v : RankedJudgement) → Contains (flat_map visits_by (before ++ after)) v → Contains (flat_map visits_by (before ++ w ∷ after)) v
            more v a =
                subst (λ l. Contains l v) (sym (flat_map-append visits_by before (w ∷ after)))
                (⊎_elim (λ (f : Contains (flat_map visits_by before) v). Contains-append_left (flat_map visits_by before) (flat_map visits_by (w ∷ after)) v f)
                (λ (b : Contains (flat_map visits_by after) v). Contains-append_right (flat_map visits_by before) (flat_map visits_by (w ∷ after)) v (Contains-append_right (visits_by w) (flat_map visits_by after) v b))
                (contains-either (flat_map visits_by before) (flat_map visits_by after) v (subst (λ l. Contains l v) (flat_map-append visits_by before after) a)))

            by : IsOf seat_by (before ++ after) c.word → IsCaused (visits_of (before ++ w ∷ after)) c
            by (inl z) = inl z
            by (inr o) = ⊎_elim
                (λ (f : Contains (map key_of_judgement fv) c.word).
                let u = contains-of key_of_judgement fv c.word f in
                inr record {
                  visit = u.0;
                  among = Contains-append_left fv (flat_map visits_by (before ++ w ∷ after)) u.0 u.1;
                  word_is = sym u.2;
                  earlier = λ e. absurd (apart u.0 u.1 w.places c i e);
                })
                (λ (f : Contains (map key_of_judgement (flat_map visits_by (before ++ after))) c.word).
                let u = contains-of key_of_judgement (flat_map visits_by (before ++ after)) c.word f in
                let at = all-at (IsAtPlaces t depth (flat_map places_by (before ++ after))) (flat_map visits_by (before ++ after)) u.0 (visits-at (before ++ after)) u.1 in
                inr record {
                  visit = u.0;
                  among = Contains-append_right fv (flat_map visits_by (before ++ w ∷ after)) u.0 (more u.0 u.1);
                  word_is = sym u.2;
                  earlier = λ e. absurd (items-apart w.places (flat_map places_by (before ++ after)) (once-between places_by before w after once) c u.0 i at (sym e));
                })
                (offers-keys (before ++ after) others c.word o)

        -- the cuts of all workers
        pub all-causes : (before ws all : List Worked) → before ++ ws ≡ all → PlacesOnce places_by all → AllByRecursion Began all
            → AtEach (λ b w a. AllByRecursion (IsOf seat_by (b ++ a)) w.now.heard) before ws → AllByRecursion (IsCaused (visits_of all)) (flat_map cuts_by ws)
        all-causes before [] all is once began heard = tt
        all-causes before (w ∷ ws) all is once began heard =
            let began' = subst (AllByRecursion Began) (sym is) began in
            let others = AllByRecursion-append Began before ws (front before began') (back before began') in
            AllByRecursion-append (IsCaused (visits_of all)) (cuts_by w) (flat_map cuts_by ws)
            (subst (λ l. AllByRecursion (IsCaused (visits_of l)) (cuts_by w)) is
            (all-both (IsAtPlaces t depth w.places) (IsCause w.first.offered (visits_by w) w.now.heard) (IsCaused (visits_of (before ++ w ∷ ws)))
            (own-cause before w ws (subst (PlacesOnce places_by) (sym is) once) began' others heard.0) (cuts_by w)
            (on-places t depth ranked root w.places w.walks w.first w.now w.are_walks w.goes).1 (on-causes t depth ranked root w.places w.walks w.first w.now w.are_walks w.goes w.rising)))
            (all-causes (before ++ w ∷ []) ws all (append_assoc before (w ∷ []) ws ∙ is) once began heard.1)
          where
            front : (bs : List Worked) → AllByRecursion Began (bs ++ w ∷ ws) → AllByRecursion Began bs
            front [] a = tt
            front (b ∷ bs) a = (a.0, front bs a.1)

            back : (bs : List Worked) → AllByRecursion Began (bs ++ w ∷ ws) → AllByRecursion Began ws
            back [] a = a.1
            back (b ∷ bs) a = back bs a.1
