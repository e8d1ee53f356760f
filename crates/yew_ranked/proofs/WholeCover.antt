-- The logs of all workers of an ordered search, one after another, cover the tree: the tasks that the first one spawned are those that were walked.
use Rattle.std.proofs.Common.{◌≡◌, ℕ, zero, suc, List, [], ◌∷◌, ◌++◌, map, refl, ap, ap₂, sym, subst, ◌∙◌, append-nil}
use Rattle.std.specs.List.{AllByRecursion, Contains, flat_map}
use Rattle.std.proofs.lemmas.List.{map-append}
use Rattle.std.proofs.lemmas.List.Concat.{flat_map-append}
use Rattle.yew_laws.specs.Bag.{SameBag}
use Rattle.yew_laws.specs.Cover.{Cover}
use Rattle.yew_laws.specs.SearchTree.{SearchTree}
use Rattle.yew_laws.specs.Tree.{IsRanked}
use Rattle.yew_laws.proofs.Bags.{same-trans, same-is, same-cons, same-map}
use Rattle.yew_laws.proofs.Covering.{cover-from_tasks}
use Rattle.yew_laws.proofs.Members.{Contains-head}
use Rattle.yew_log.specs.Groups.{group_of}
use Rattle.yew_log.specs.Lawful.{tasks_of}
use Rattle.yew_log.specs.Notes.{Note, taken, visited, cut, spawned, handed, ended, Judgement, visits, cuts, paths, visit_in, cut_in, sent_in, event_in, sent_paths, taken_paths, visited_paths, cut_paths}
use Rattle.yew_log.specs.Places.{AtEach}
use Rattle.yew_log.specs.Segment.{Begins, entries, entries_in, IsSegment}
use Rattle.yew_log.proofs.Growth.{segments-covered_paths}
use Rattle.yew_walk.specs.WorkerLogs.{KeyedSegment, segments_of}
use Rattle.yew_ranked.specs.Frontier.{frontier_log, frontier_segment}
use Rattle.yew_ranked.specs.RankedSearch.{RankedJudgement, ranked_paths, plain_judgement, IsRankedSearch}
use Rattle.yew_ranked.specs.Tasks.{Numbered, tasks_of_tree}
use Rattle.yew_ranked.proofs.AllVisits.{visits_by, cuts_by}
use Rattle.yew_ranked.proofs.FrontierItems.{frontier_log-tasks}
use Rattle.yew_ranked.proofs.FrontierLawful.{frontier-segment, frontier-sent}
use Rattle.yew_ranked.proofs.WholeVisits.{task_of, part, ArePartsOf, walks_by, tasks-walked, IsSomeWalk, all-walks, visits-plain_by, cuts-plain_by, all_visits, all_cuts, all-search}

no-first : (p : List ℕ) (ps : List (List ℕ)) → p ∷ ps ≡ [] → ⊥
no-first p ps e = absurd (cc)

-- where there are no groups, nothing is sent
sent-none : (before notes : List Note) → AtEach (λ b n a. AllByRecursion (λ p. group_of a ≡ []) (event_in n)) before notes → taken_paths notes ≡ [] → group_of notes ≡ [] → sent_paths notes ≡ []
sent-none before [] each untaken none = refl
sent-none before (visited p w h ∷ ns) each untaken none = sent-none (before ++ visited p w h ∷ []) ns each.1 untaken each.0.0
sent-none before (cut p b h ∷ ns) each untaken none = sent-none (before ++ cut p b h ∷ []) ns each.1 untaken each.0.0
sent-none before (ended p ∷ ns) each untaken none = sent-none (before ++ ended p ∷ []) ns each.1 untaken each.0.0
sent-none before (spawned p ∷ ns) each untaken none = absurd (let no : spawned p ∷ group_of ns ≡ [] → ⊥ = λ e. cc in no none)
sent-none before (handed p ∷ ns) each untaken none = absurd (let no : handed p ∷ group_of ns ≡ [] → ⊥ = λ e. cc in no none)
sent-none before (taken p ∷ ns) each untaken none = absurd (no-first p (taken_paths ns) untaken)

begins-none : (task : List ℕ) (body : List Note) → Begins task body → group_of body ≡ []
begins-none task [] b = absurd b
begins-none task (visited p w h ∷ ns) b = refl
begins-none task (cut p b' h ∷ ns) b = refl
begins-none task (taken p ∷ ns) b = absurd b
begins-none task (spawned p ∷ ns) b = absurd b
begins-none task (handed p ∷ ns) b = absurd b
begins-none task (ended p ∷ ns) b = absurd b

-- the paths of judgements as a log has them
pub ranked-paths : (js : List RankedJudgement) → paths (map plain_judgement js) ≡ ranked_paths js
ranked-paths [] = refl
ranked-paths (j ∷ js) = ap (λ ps. j.path ∷ ps) (ranked-paths js)

module _ {N : Type 0} (t : SearchTree N) (levels : ℕ) where
  walks-send_none : (walks : List KeyedSegment) → AllByRecursion (IsSomeWalk t levels) walks → sent_paths (entries (segments_of walks)) ≡ []
  walks-send_none [] a = refl
  walks-send_none (w ∷ ws) a =
      let is = a.0.1.is_segment in
      flat_map-append sent_in (entries_in w.segment) (entries (segments_of ws))
      ∙ ap₂ (λ (x y : List (List ℕ)). x ++ y) (sent-none [] w.segment.body a.0.1.groups is.untaken (begins-none w.segment.task w.segment.body is.begins)) (walks-send_none ws a.1)

  walks-segments : (walks : List KeyedSegment) → AllByRecursion (IsSomeWalk t levels) walks → AllByRecursion (IsSegment t) (segments_of walks)
  walks-segments [] a = tt
  walks-segments (w ∷ ws) a = (a.0.1.is_segment, walks-segments ws a.1)

  walks-tasks : (walks : List KeyedSegment) → tasks_of (segments_of walks) ≡ map (λ (task : Numbered). task.path) (map task_of walks)
  walks-tasks [] = refl
  walks-tasks (w ∷ ws) = ap (λ ps. w.segment.task ∷ ps) (walks-tasks ws)

  root-visited : (k : ℕ) (more : List Note) → Contains (visited_paths (frontier_log t k ++ more)) []
  root-visited zero more = Contains-head [] _
  root-visited (suc k) more = Contains-head [] _

  module _ {sound : N → Type 0} (ranked : IsRanked sound t.children t.rank) (root : sound t.root)
      (fv fc : List RankedJudgement) (w : part t levels) (ws : List (part t levels)) (are : ArePartsOf t levels fv fc w ws) where
    abbrev pub all_walks : List KeyedSegment
    all_walks = flat_map (walks_by t levels) (w ∷ ws)

    -- the entries of all logs
    abbrev pub all_notes : List Note
    all_notes = frontier_log t levels ++ entries (segments_of all_walks)

    pub whole-visits : map plain_judgement (all_visits t levels ranked root fv fc w ws are) ≡ visits all_notes
    whole-visits =
        map-append plain_judgement fv (flat_map (visits_by t (suc levels)) (w ∷ ws))
        ∙ (ap₂ (λ (a b : List Judgement). a ++ b) are.visits_are (visits-plain_by t levels (w ∷ ws)) ∙ sym (flat_map-append visit_in (frontier_log t levels) (entries (segments_of all_walks))))

    pub whole-cuts : map plain_judgement (all_cuts t levels ranked root fv fc w ws are) ≡ cuts all_notes
    whole-cuts =
        map-append plain_judgement fc (flat_map (cuts_by t (suc levels)) (w ∷ ws))
        ∙ (ap₂ (λ (a b : List Judgement). a ++ b) are.cuts_are (cuts-plain_by t levels (w ∷ ws)) ∙ sym (flat_map-append cut_in (frontier_log t levels) (entries (segments_of all_walks))))

    pub whole-segments : AllByRecursion (IsSegment t) (frontier_segment t levels ∷ segments_of all_walks)
    whole-segments = (frontier-segment t ranked root levels, walks-segments all_walks (all-walks t levels (w ∷ ws)))

    -- the tasks that were sent are those that were walked
    whole-sent : sent_paths all_notes ≡ map (λ (task : Numbered). task.path) (tasks_of_tree t (suc levels))
    whole-sent =
        flat_map-append sent_in (frontier_log t levels) (entries (segments_of all_walks))
        ∙ (ap₂ (λ (x y : List (List ℕ)). x ++ y) (frontier-sent t ranked root levels ∙ frontier_log-tasks t levels) (walks-send_none all_walks (all-walks t levels (w ∷ ws)))
        ∙ append-nil (map (λ (task : Numbered). task.path) (tasks_of_tree t (suc levels))))

    pub whole-tasks : SameBag (tasks_of (frontier_segment t levels ∷ segments_of all_walks)) ([] ∷ sent_paths all_notes)
    whole-tasks =
        same-cons [] (same-trans (same-is (walks-tasks all_walks))
        (same-trans (same-map (λ (task : Numbered). task.path) (tasks-walked t levels are.count w ws are.claims_are)) (same-is (sym whole-sent))))

    -- the entries cover the tree
    pub whole-cover : Cover t (visited_paths all_notes) (cut_paths all_notes)
    whole-cover =
        cover-from_tasks t (visited_paths all_notes) (cut_paths all_notes) (tasks_of (frontier_segment t levels ∷ segments_of all_walks)) (sent_paths all_notes) (root-visited levels (entries (segments_of all_walks)))
        (segments-covered_paths t (frontier_segment t levels ∷ segments_of all_walks) whole-segments) whole-tasks

    -- and so all visits and cuts are a search by ranked keys
    pub whole-search : IsRankedSearch t (all_visits t levels ranked root fv fc w ws are) (all_cuts t levels ranked root fv fc w ws are)
    whole-search =
        all-search t levels ranked root fv fc w ws are
        (subst (λ (ps : List (List ℕ)). Cover t ps (ranked_paths (all_cuts t levels ranked root fv fc w ws are))) (ap paths (sym whole-visits) ∙ ranked-paths (all_visits t levels ranked root fv fc w ws are))
        (subst (λ (ps : List (List ℕ)). Cover t (visited_paths all_notes) ps) (ap paths (sym whole-cuts) ∙ ranked-paths (all_cuts t levels ranked root fv fc w ws are)) whole-cover))
