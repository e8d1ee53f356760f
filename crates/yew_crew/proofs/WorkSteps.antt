-- A worker's walks, one after another.
use Rattle.std.proofs.Common.{◌≡◌, ℕ, ◌∙◌, List, [], ◌∷◌, ◌++◌, map, length, refl, sym, ap, subst, append-nil, arith}
use Rattle.std.specs.List.{AllByRecursion, flat_map, sum_by}
use Rattle.std.proofs.lemmas.List.{length-append}
use Rattle.std.proofs.lemmas.List.Concat.{flat_map-append}
use Rattle.std.proofs.lemmas.List.Sums.{sum_by-append, sum_by-cons}
use Rattle.yew_laws.specs.Bag.{SameBag}
use Rattle.yew_laws.specs.Fold.{fold_of, of_member, IsTally}
use Rattle.yew_laws.specs.Tree.{Member, paths as member_paths}
use Rattle.yew_laws.proofs.Folds.{fold-fits}
use Rattle.yew_laws.proofs.Members.{AllByRecursion-append}
use Rattle.yew_log.specs.Lawful.{tasks_of}
use Rattle.yew_log.specs.Notes.{Note, taken, Judgement, visits, visited_paths, spawned_in, handed_in, visit_in}
use Rattle.yew_log.specs.Segment.{Segment, segment, entries, entries_in}
use Rattle.yew_stack.specs.Splits.{paths_of}
use Rattle.yew_walk.specs.declared.keying.Keying.TheVariants.{Plain}
use Rattle.yew_walk.specs.Hands.{best_after}
use Rattle.yew_walk.specs.LogViews.{log_after}
use Rattle.yew_walk.proofs.Sending.{log_after-append}
use Rattle.yew_walk.proofs.WorkerLogs.{goes_on-push}
use Rattle.yew_walk.specs.WorkerLogs.{SeatGoesOn}
use Rattle.yew_laws.specs.Incumbent.{Incumbent, improved}
use Rattle.yew_walk.specs.Keys.{answer_key}
use Rattle.yew_crew.specs.Stations.{Searched, IsSameStation}
use Rattle.yew_crew.specs.Working.{gap_walk, IsWalkSegment, IsStep, IsWorking}
use Rattle.yew_crew.specs.declared.station.Station.{Station}
use Rattle.yew_crew.proofs.LookSteps.{looks-more}

map-push : {X Y : Type 0} (f : X → Y) (xs : List X) (x : X) → map f (xs ++ x ∷ []) ≡ map f xs ++ f x ∷ []
map-push f [] x = refl
map-push f (y ∷ ys) x = ap (λ l. f y ∷ l) (map-push f ys x)

pub entries-push : (segments : List Segment) (seg : Segment) → entries (segments ++ seg ∷ []) ≡ entries segments ++ entries_in seg
entries-push segments seg = flat_map-append entries_in segments (seg ∷ []) ∙ ap (λ l. entries segments ++ l) (append-nil (entries_in seg))

-- what is read of the entries of one more segment
pub read-push : {Y : Type 0} (f : Note → List Y) (segments : List Segment) (path : List ℕ) (body : List Note) → f (taken path) ≡ [] → flat_map f (entries (segments ++ segment path body ∷ [])) ≡ flat_map f (entries segments) ++ flat_map f body
read-push f segments path body none =
    ap (flat_map f) (entries-push segments (segment path body)) ∙ (flat_map-append f (entries segments) (taken path ∷ body) ∙ ap (λ l. flat_map f (entries segments) ++ (l ++ flat_map f body)) none)

best-append : (xs ys : List Judgement) (incumbent : Incumbent) → best_after Plain incumbent (xs ++ ys) ≡ best_after Plain (best_after Plain incumbent xs) ys
best-append [] ys incumbent = refl
best-append (x ∷ xs) ys incumbent = best-append xs ys (improved incumbent (answer_key Plain x.value) x.path)

all-append : {X : Type 0} (Q : X → Type 0) (xs ys : List X) → AllByRecursion Q xs → AllByRecursion Q ys → AllByRecursion Q (xs ++ ys)
all-append Q xs ys a b = AllByRecursion-append Q xs ys a b

paths-append : {N : Type 0} (xs ys : List (Member N)) → member_paths (xs ++ ys) ≡ member_paths xs ++ member_paths ys
paths-append [] ys = refl
paths-append (x ∷ xs) ys = ap (λ l. x.path ∷ l) (paths-append xs ys)

visited-append : (xs ys : List Judgement) → map (λ (j : Judgement). j.path) (xs ++ ys) ≡ map (λ (j : Judgement). j.path) xs ++ map (λ (j : Judgement). j.path) ys
visited-append [] ys = refl
visited-append (x ∷ xs) ys = ap (λ l. x.path ∷ l) (visited-append xs ys)

tasks-push : (segments : List Segment) (seg : Segment) → tasks_of (segments ++ seg ∷ []) ≡ tasks_of segments ++ seg.task ∷ []
tasks-push [] seg = refl
tasks-push (x ∷ xs) seg = ap (λ l. x.task ∷ l) (tasks-push xs seg)

pub fold-append : {X S : Type 0} {fits : S → Type 0} {join : S → S → S} {none : S} → IsTally fits join none → (of : X → S) → ((x : X) → fits (of x)) → (xs ys : List X) → fold_of join none of (xs ++ ys) ≡ join (fold_of join none of xs) (fold_of join none of ys)
fold-append tally of of_fits [] ys = sym (tally.unit _ (fold-fits tally of of_fits ys))
fold-append {join} {none} tally of of_fits (x ∷ xs) ys =
    ap (join (of x)) (fold-append tally of of_fits xs ys) ∙ sym (tally.assoc (of x) _ _ (of_fits x) (fold-fits tally of of_fits xs) (fold-fits tally of of_fits ys))

-- bags that grow twice
pub grow : {X : Type 0} (first mid last more again : List X) → SameBag mid (first ++ more) → SameBag last (mid ++ again) → SameBag last (first ++ (more ++ again))
grow first mid last more again a b = record {
  weighs = λ w. (
      let e = a.weighs w in let f = b.weighs w in let g = sum_by-append w first more in let h = sum_by-append w mid again in
      let i = sum_by-append w first (more ++ again) in let j = sum_by-append w more again in omega arith);
}

pub stay : {X : Type 0} (first mid last more : List X) → SameBag mid (first ++ more) → SameBag last (mid ++ []) → SameBag last (first ++ more)
stay first mid last more a b = record { weighs = λ w. (let e = a.weighs w in let f = b.weighs w in let g = sum_by-append w mid [] in omega arith) }

module _ {N S R : Type 0} where
  pub same-twice : (a b c : Station N S R) → IsSameStation a b → IsSameStation b c → IsSameStation a c
  same-twice a b c p q = record {
    number = q.number ∙ p.number;
    best = q.best ∙ p.best;
    best_share = q.best_share ∙ p.best_share;
    pool = q.pool ∙ p.pool;
    pass_number = q.pass_number ∙ p.pass_number;
    pass_share = q.pass_share ∙ p.pass_share;
    pass_members = q.pass_members ∙ p.pass_members;
    mail = q.mail ∙ p.mail;
    mail_share = q.mail_share ∙ p.mail_share;
    mail_numbers = q.mail_numbers ∙ p.mail_numbers;
    mail_members = q.mail_members ∙ p.mail_members;
    tasks = q.tasks ∙ p.tasks;
    tasks_share = q.tasks_share ∙ p.tasks_share;
  }

  module _ (s : Searched S R N) {fits : S → Type 0} (tally : IsTally fits s.join s.none) (of_fits : (n : N) (depth : ℕ) → fits (s.of n depth)) where
    -- a task that the worker still had to walk was walked
    pub work-more : (path : List ℕ) (rest : List (List ℕ)) (first before after : Station N S R) → fits first.hand.sum → IsWorking s (path ∷ rest) first before → IsStep s path before after → IsWorking s rest first after
    work-more path rest first before after f w x =
        let seg = segment path x.body in
        let member_fits : (m : Member N) → fits (of_member s.of m) = λ m. of_fits m.node (length m.path) in
        let visits_are = read-push visit_in w.segments path x.body refl in
        record {
          segments = w.segments ++ seg ∷ [];
          members = w.members ++ x.members;
          took = w.took;
          put = w.put ++ x.put;
          got = w.got;
          given = w.given ++ x.given;
          walks = all-append (IsWalkSegment s) w.segments (seg ∷ []) w.walks (x.walk, tt);
          moved = record {
            took_is = stay (paths_of first.pool.took) (paths_of before.pool.took) (paths_of after.pool.took) w.took w.moved.took_is x.moved.took_is;
            put_is = grow (paths_of first.pool.put) (paths_of before.pool.put) (paths_of after.pool.put) w.put x.put w.moved.put_is x.moved.put_is;
            got_is = stay (paths_of first.mail.got) (paths_of before.mail.got) (paths_of after.mail.got) w.got w.moved.got_is x.moved.got_is;
            given_is = grow (paths_of first.mail.given) (paths_of before.mail.given) (paths_of after.mail.given) w.given x.given w.moved.given_is x.moved.given_is;
          };
          taken_are = record {
            weighs = λ h. (
                let a = w.taken_are.weighs h in
                let b = sum_by-append h (tasks_of w.segments) (path ∷ rest) in
                let c = sum_by-cons h path rest in
                let d = ap (λ l. sum_by h l) (tasks-push w.segments seg) in
                let e = sum_by-append h (tasks_of w.segments) (path ∷ []) in
                let g = sum_by-append h (tasks_of (w.segments ++ seg ∷ [])) rest in
                let i = sum_by-cons h path [] in omega arith);
          };
          spawned_are = both spawned_in w.segments path x.body refl w.put x.put w.spawned_are x.spawned_are;
          handed_are = both handed_in w.segments path x.body refl w.given x.given w.handed_are x.handed_are;
          goes = subst (λ l. SeatGoesOn s.tree first.best l after.best) (sym (map-push (gap_walk s.gap) w.segments seg))
              (goes_on-push s.tree (map (gap_walk s.gap) w.segments) first.best before.best after.best (gap_walk s.gap seg) w.goes x.goes);
          log_is = x.log_is ∙ (ap (λ l. log_after l (entries_in seg)) w.log_is ∙ (sym (log_after-append (s.seen first.log) (entries w.segments) (entries_in seg)) ∙ ap (log_after (s.seen first.log)) (sym (entries-push w.segments seg))));
          are_visited = record {
            paths_are = paths-append w.members x.members ∙ (ap (λ l. l ++ member_paths x.members) w.are_visited.paths_are ∙ (ap (λ l. visited_paths (entries w.segments) ++ l) x.are_visited.paths_are
                ∙ (sym (visited-append (visits (entries w.segments)) (visits x.body)) ∙ ap (map (λ (j : Judgement). j.path)) (sym visits_are))));
            there = all-append _ w.members x.members w.are_visited.there x.are_visited.there;
          };
          sum_is = x.sum_is ∙ (ap (λ v. s.join v (fold_of s.join s.none (of_member s.of) x.members)) w.sum_is
              ∙ (tally.assoc first.hand.sum _ _ f (fold-fits tally (of_member s.of) member_fits w.members) (fold-fits tally (of_member s.of) member_fits x.members)
              ∙ ap (s.join first.hand.sum) (sym (fold-append tally (of_member s.of) member_fits w.members x.members))));
          best_is = x.best_is ∙ (ap (λ i. best_after Plain i (visits x.body)) w.best_is ∙ (sym (best-append (visits (entries w.segments)) (visits x.body) _) ∙ ap (best_after Plain _) (sym visits_are)));
          made_is = (let a = w.made_is in let b = x.made_is in let c = length-append w.put x.put in let d = length-append w.given x.given in omega arith);
          ended_is = (let a = w.ended_is in let b = x.ended_is in let c = length-append w.segments (seg ∷ []) in omega arith);
          no_stop = x.no_stop ∙ w.no_stop;
          knows = λ k. x.knows (w.knows k);
          same = same-twice first before after w.same x.same;
          space = x.space;
          looks = looks-more s path x.body w.segments first before after w.looks x.looks;
        }
      where
        both : (of : Note → List (List ℕ)) (segments : List Segment) (path' : List ℕ) (body : List Note) → of (taken path') ≡ [] → (xs ys : List (List ℕ)) → SameBag xs (flat_map of (entries segments)) → SameBag ys (flat_map of body) → SameBag (xs ++ ys) (flat_map of (entries (segments ++ segment path' body ∷ [])))
        both of segments path' body none xs ys a b = record {
          weighs = λ h. (
              let c = a.weighs h in let d = b.weighs h in let e = sum_by-append h xs ys in let g = ap (λ l. sum_by h l) (read-push of segments path' body none) in
              let i = sum_by-append h (flat_map of (entries segments)) (flat_map of body) in omega arith);
        }
