-- A sequential walk goes along the sequential log.
use Rattle.std.proofs.Common.{◌≡◌, ℕ, zero, suc, ◌<◌, ◌≤◌, List, [], ◌∷◌, ◌++◌, max, Bool, true, false, nat_le, if◌then◌else◌, refl, ap, ap₂, sym, ◌∙◌, append_assoc, append-nil, add-one, arith, leb-true, leb-false}
use mathlib.Core.List.{reverse}
use Rattle.std.specs.List.{AllByRecursion}
use Rattle.std.proofs.lemmas.List.{reverse-append}
use Rattle.yew_best.specs.Seats.{SeatView, has_read}
use Rattle.yew_laws.specs.SearchTree.{SearchTree}
use Rattle.yew_laws.specs.Tree.{IsRanked}
use Rattle.yew_laws.proofs.Members.{AllByRecursion-both, AllByRecursion-weaker}
use Rattle.yew_log.specs.Attained.{limit}
use Rattle.yew_log.specs.HeldValues.{plain}
use Rattle.yew_log.specs.Items.{in_turn}
use Rattle.yew_log.specs.Notes.{Note, taken, visited, cut, spawned, handed, ended, values, visits, maximum}
use Rattle.yew_log.specs.SeqLog.{visited_worth, visit_notes, seq_log}
use Rattle.yew_log.proofs.SeqLaws.{worth-append}
use Rattle.yew_stack.specs.Levels.{LevelView, Gives}
use Rattle.yew_stack.specs.Turns.{TopGives, TopEnds}
use Rattle.yew_walk.specs.declared.keying.Keying.{Keying}
use Rattle.yew_walk.specs.Keys.{key_of, kind_of}
use Rattle.yew_walk.specs.Seats.{SeatGoes, IsRead, has_offered}
use Rattle.yew_walk.specs.SeqRests.{child_notes, level_notes, rest_notes, IsInSequence}
use Rattle.yew_walk.proofs.KeyOrder.{key_of-plain}
use Rattle.yew_walk.proofs.PlainLogs.{IsRead-maximum}
use Rattle.yew_walk.proofs.SeatWays.{goes-stays}

-- in turn, where each sibling has the same entries
in_turn-same : {N X : Type 0} (worth_of : List X → ℕ) (made other : List ℕ → N → ℕ → List X) (path : List ℕ) (k : ℕ) (ns : List N) (held : ℕ) → AllByRecursion (λ n. (p : List ℕ) (h : ℕ) → made p n h ≡ other p n h) ns → in_turn worth_of made path k ns held ≡ in_turn worth_of other path k ns held
in_turn-same worth_of made other path k [] held a = refl
in_turn-same worth_of made other path k (n ∷ ns) held a =
    let first = a.0 (path ++ k ∷ []) held in
    ap (λ xs. xs ++ in_turn worth_of made path (suc k) ns (max held (worth_of xs))) first
    ∙ ap (λ ys. other (path ++ k ∷ []) n held ++ ys) (in_turn-same worth_of made other path (suc k) ns (max held (worth_of (other (path ++ k ∷ []) n held))) a.1)

module _ {N : Type 0} (t : SearchTree N) (gap : ℕ) where
  -- a child, where its own entries are these if it is visited
  abbrev judged : List Note → List ℕ → N → ℕ → List Note
  judged visit path node held = if nat_le (t.bound node) (limit gap held) then cut path (t.bound node) held ∷ [] else visit

  module _ {sound : N → Type 0} (ranked : IsRanked sound t.children t.rank) where
    leaf : (n : N) → sound n → t.rank n ≤ 0 → t.children n ≡ []
    leaf n s low = by (t.children n) (ranked.rank_falls n s)
      where
        by : (cs : List N) → AllByRecursion (λ c. t.rank c < t.rank n) cs → cs ≡ []
        by [] a = refl
        by (c ∷ cs) a = absurd (omega (arith, a.0))

    -- the entries of a node whose children have these entries
    abbrev opened : (List ℕ → N → ℕ → List Note) → List ℕ → N → ℕ → List Note
    opened made path node held =
        visited path (t.worth node) held ∷ in_turn visited_worth made path 0 (t.children node) (max held (t.worth node)) ++ ended path ∷ []

    opened-leaf : (made : List ℕ → N → ℕ → List Note) (path : List ℕ) (n : N) (held : ℕ) → t.children n ≡ [] → opened made path n held ≡ visited path (t.worth n) held ∷ ended path ∷ []
    opened-leaf made path n held none =
        ap (λ cs. visited path (t.worth n) held ∷ in_turn visited_worth made path 0 cs (max held (t.worth n)) ++ ended path ∷ []) none

    opened-same : (made other : List ℕ → N → ℕ → List Note) (path : List ℕ) (n : N) (held : ℕ) → AllByRecursion (λ c. (p : List ℕ) (h : ℕ) → made p c h ≡ other p c h) (t.children n) → opened made path n held ≡ opened other path n held
    opened-same made other path n held a =
        ap (λ ns. visited path (t.worth n) held ∷ ns ++ ended path ∷ []) (in_turn-same visited_worth made other path 0 (t.children n) (max held (t.worth n)) a)

    abbrev Below : N → N → Type 0
    Below n c = sound c × (t.rank c < t.rank n)

    kids : (n : N) → sound n → AllByRecursion (Below n) (t.children n)
    kids n s = AllByRecursion-both sound (λ c. t.rank c < t.rank n) (t.children n) (ranked.stays_sound n s) (ranked.rank_falls n s)

    -- the entries are the same for every number of levels that is at least the rank
    pub visit_notes-levels : (more fewer : ℕ) (path : List ℕ) (n : N) (held : ℕ) → sound n → t.rank n ≤ more → t.rank n ≤ fewer → visit_notes t gap more path n held ≡ visit_notes t gap fewer path n held
    visit_notes-levels zero zero path n held s a b = refl
    visit_notes-levels zero (suc fewer) path n held s a b =
        sym (opened-leaf (λ p c h. judged (visit_notes t gap fewer p c h) p c h) path n held (leaf n s a))
    visit_notes-levels (suc more) zero path n held s a b =
        opened-leaf (λ p c h. judged (visit_notes t gap more p c h) p c h) path n held (leaf n s b)
    visit_notes-levels (suc more) (suc fewer) path n held s a b =
        opened-same (λ p c h. judged (visit_notes t gap more p c h) p c h) (λ p c h. judged (visit_notes t gap fewer p c h) p c h) path n held
        (AllByRecursion-weaker (Below n) (λ c. (p : List ℕ) (h : ℕ) → judged (visit_notes t gap more p c h) p c h ≡ judged (visit_notes t gap fewer p c h) p c h)
        (λ c k p h. ap (λ ns. judged ns p c h) (visit_notes-levels more fewer p c h k.0 (omega (arith, k.1)) (omega (arith, k.1)))) (t.children n) (kids n s))

    -- the entries of a sound node: its visit, those of its children, and its end
    visit_notes-opens : (path : List ℕ) (n : N) (held : ℕ) → sound n → visit_notes t gap (t.rank n) path n held ≡ opened (child_notes t gap) path n held
    visit_notes-opens path n held s =
        visit_notes-levels (t.rank n) (suc (t.rank n)) path n held s (omega arith) (omega arith)
        ∙ opened-same (λ p c h. judged (visit_notes t gap (t.rank n) p c h) p c h) (child_notes t gap) path n held
        (AllByRecursion-weaker (Below n) (λ c. (p : List ℕ) (h : ℕ) → judged (visit_notes t gap (t.rank n) p c h) p c h ≡ child_notes t gap p c h)
        (λ c k p h. ap (λ ns. judged ns p c h) (visit_notes-levels (t.rank n) (t.rank c) p c h k.0 (omega (arith, k.1)) (omega arith))) (t.children n) (kids n s))

    -- a node that is visited: its visit, and then what is to come of its level
    opens-rest : (path : List ℕ) (n : N) (held : ℕ) (lower : List (LevelView N)) → sound n → visit_notes t gap (t.rank n) path n held ++ rest_notes t gap lower (max held (visited_worth (visit_notes t gap (t.rank n) path n held))) ≡ visited path (t.worth n) held ∷ rest_notes t gap (record { parent = path; given = 0; remaining = t.children n } ∷ lower) (max held (t.worth n))
    opens-rest path n held lower s =
        let inner = level_notes t gap (record { parent = path; given = 0; remaining = t.children n }) (max held (t.worth n)) in
        let worth = worth-append inner (ended path ∷ []) in
        let same : max held (max (t.worth n) (visited_worth (inner ++ ended path ∷ []))) ≡ max (max held (t.worth n)) (visited_worth inner) = omega arith in
        ap (λ ns. ns ++ rest_notes t gap lower (max held (visited_worth ns))) (visit_notes-opens path n held s)
        ∙ ap (λ ns. visited path (t.worth n) held ∷ ns) (append_assoc inner (ended path ∷ []) (rest_notes t gap lower (max held (max (t.worth n) (visited_worth (inner ++ ended path ∷ []))))))
        ∙ ap (λ h. visited path (t.worth n) held ∷ (inner ++ ended path ∷ rest_notes t gap lower h)) same

  -- what is to come of a level that gives a node: the entries of the node, and then what is to come of the others
  gives-rest : (top rest : LevelView N) (path : List ℕ) (node : N) (held : ℕ) (lower : List (LevelView N)) → Gives top path node rest → rest_notes t gap (top ∷ lower) held ≡ child_notes t gap path node held ++ rest_notes t gap (rest ∷ lower) (max held (visited_worth (child_notes t gap path node held)))
  gives-rest top rest path node held lower gives =
      let first = child_notes t gap path node held in
      let others = level_notes t gap rest (max held (visited_worth first)) in
      let given : rest.given ≡ suc top.given = gives.given_is ∙ add-one top.given in
      let turn : level_notes t gap top held ≡ first ++ others =
      ap (λ ns. in_turn visited_worth (child_notes t gap) top.parent top.given ns held) gives.remaining_is
      ∙ ap (λ p. child_notes t gap p node held ++ in_turn visited_worth (child_notes t gap) top.parent (suc top.given) rest.remaining (max held (visited_worth (child_notes t gap p node held)))) (sym gives.path_is)
      ∙ ap₂ (λ (p : List ℕ) (k : ℕ). first ++ in_turn visited_worth (child_notes t gap) p k rest.remaining (max held (visited_worth first))) (sym gives.parent_is) (sym given) in
      let worth = worth-append first others in
      let same : max held (visited_worth (first ++ others)) ≡ max (max held (visited_worth first)) (visited_worth others) = omega arith in
      ap (λ ns. ns ++ ended top.parent ∷ rest_notes t gap lower (max held (visited_worth ns))) turn
      ∙ append_assoc first others (ended top.parent ∷ rest_notes t gap lower (max held (visited_worth (first ++ others))))
      ∙ ap₂ (λ (p : List ℕ) (h : ℕ). first ++ (others ++ ended p ∷ rest_notes t gap lower h)) (sym gives.parent_is) same

  -- one more entry, which is the next of those that were to come
  sequence-next : (notes : List Note) (note : Note) (old new : List (LevelView N)) (held : ℕ) → held ≡ visited_worth notes → rest_notes t gap (reverse old) held ≡ note ∷ rest_notes t gap (reverse new) (max held (visited_worth (note ∷ []))) → IsInSequence t gap notes old → IsInSequence t gap (notes ++ note ∷ []) new
  sequence-next notes note old new held is next seq =
      let worth : max held (visited_worth (note ∷ [])) ≡ visited_worth (notes ++ note ∷ []) = ap (λ h. max h (visited_worth (note ∷ []))) is ∙ sym (worth-append notes (note ∷ [])) in
      record {
        is = seq.is
            ∙ ap (λ h. taken [] ∷ (notes ++ rest_notes t gap (reverse old) h)) (sym is)
            ∙ ap (λ ns. taken [] ∷ (notes ++ ns)) (next ∙ ap (λ h. note ∷ rest_notes t gap (reverse new) h) worth)
            ∙ ap (λ ns. taken [] ∷ ns) (sym (append_assoc notes (note ∷ []) (rest_notes t gap (reverse new) (visited_worth (notes ++ note ∷ [])))));
      }

  tops-push : (ls : List (LevelView N)) (level : LevelView N) → reverse (ls ++ level ∷ []) ≡ level ∷ reverse ls
  tops-push ls level = reverse-append ls (level ∷ [])

  -- the next node, before the rest
  turn-gives : (old mid : List (LevelView N)) (path : List ℕ) (node : N) (held : ℕ) → TopGives old path node mid → rest_notes t gap (reverse old) held ≡ child_notes t gap path node held ++ rest_notes t gap (reverse mid) (max held (visited_worth (child_notes t gap path node held)))
  turn-gives old mid path node held turn =
      ap (λ ls. rest_notes t gap ls held) (ap reverse turn.old_is ∙ tops-push turn.lower turn.top)
      ∙ gives-rest turn.top turn.rest path node held (reverse turn.lower) turn.gives
      ∙ ap (λ ls. child_notes t gap path node held ++ rest_notes t gap ls (max held (visited_worth (child_notes t gap path node held)))) (sym (ap reverse turn.new_is ∙ tops-push turn.lower turn.rest))

  child-visited : (path : List ℕ) (node : N) (held : ℕ) → limit gap held < t.bound node → child_notes t gap path node held ≡ visit_notes t gap (t.rank node) path node held
  child-visited path node held over = by (nat_le (t.bound node) (limit gap held)) refl
    where
      by : (v : Bool) → nat_le (t.bound node) (limit gap held) ≡ v → (if v then cut path (t.bound node) held ∷ [] else visit_notes t gap (t.rank node) path node held) ≡ visit_notes t gap (t.rank node) path node held
      by true x = let le = leb-true (t.bound node) (limit gap held) x in absurd (omega (arith, le, over))
      by false x = refl

  child-cut : (path : List ℕ) (node : N) (held : ℕ) → t.bound node ≤ limit gap held → child_notes t gap path node held ≡ cut path (t.bound node) held ∷ []
  child-cut path node held under = by (nat_le (t.bound node) (limit gap held)) refl
    where
      by : (v : Bool) → nat_le (t.bound node) (limit gap held) ≡ v → (if v then cut path (t.bound node) held ∷ [] else visit_notes t gap (t.rank node) path node held) ≡ cut path (t.bound node) held ∷ []
      by true x = refl
      by false x = let above : limit gap held < t.bound node = leb-false (t.bound node) (limit gap held) x in absurd (omega (arith, above, under))

  -- a child that is cut: its entry comes next
  pub sequence-cut : (notes : List Note) (old mid : List (LevelView N)) (path : List ℕ) (node : N) (held : ℕ) → IsInSequence t gap notes old → TopGives old path node mid → held ≡ visited_worth notes → t.bound node ≤ limit gap held → IsInSequence t gap (notes ++ cut path (t.bound node) held ∷ []) mid
  sequence-cut notes old mid path node held seq turn is under =
      sequence-next notes (cut path (t.bound node) held) old mid held is
      (turn-gives old mid path node held turn ∙ ap (λ ns. ns ++ rest_notes t gap (reverse mid) (max held (visited_worth ns))) (child-cut path node held under))
      seq

  -- the end of the highest level: it comes next
  pub sequence-end : (notes : List Note) (old new : List (LevelView N)) (path : List ℕ) → IsInSequence t gap notes old → TopEnds old path new → IsInSequence t gap (notes ++ ended path ∷ []) new
  sequence-end notes old new path seq turn =
      sequence-next notes (ended path) old new (visited_worth notes) refl
      (ap (λ ls. rest_notes t gap ls (visited_worth notes)) (ap reverse turn.old_is ∙ tops-push new turn.top)
      ∙ ap (λ ns. in_turn visited_worth (child_notes t gap) turn.top.parent turn.top.given ns (visited_worth notes) ++ ended turn.top.parent ∷ rest_notes t gap (reverse new) (max (visited_worth notes) (visited_worth (in_turn visited_worth (child_notes t gap) turn.top.parent turn.top.given ns (visited_worth notes))))) turn.spent
      ∙ ap (λ p. ended p ∷ rest_notes t gap (reverse new) (max (visited_worth notes) 0)) turn.parent_is)
      seq

  -- the entries so far are the first of the sequential log
  pub sequence-prefix : (notes : List Note) (ls : List (LevelView N)) → IsInSequence t gap notes ls → (rest : List Note) × (seq_log t gap ≡ (taken [] ∷ notes) ++ rest)
  sequence-prefix notes ls seq = (rest_notes t gap (reverse ls) (visited_worth notes), seq.is)

  module _ {sound : N → Type 0} (ranked : IsRanked sound t.children t.rank) where
    -- a child that is visited: its entry comes next, and its children are a new level
    pub sequence-visit : (notes : List Note) (old mid : List (LevelView N)) (path : List ℕ) (node : N) (held : ℕ) → IsInSequence t gap notes old → TopGives old path node mid → sound node → held ≡ visited_worth notes → limit gap held < t.bound node → IsInSequence t gap (notes ++ visited path (t.worth node) held ∷ []) (mid ++ record { parent = path; given = 0; remaining = t.children node } ∷ [])
    sequence-visit notes old mid path node held seq turn s is over =
        let level : LevelView N = record { parent = path; given = 0; remaining = t.children node } in
        let same : max held (t.worth node) ≡ max held (max (t.worth node) 0) = omega arith in
        sequence-next notes (visited path (t.worth node) held) old (mid ++ level ∷ []) held is
        (turn-gives old mid path node held turn
        ∙ ap (λ ns. ns ++ rest_notes t gap (reverse mid) (max held (visited_worth ns))) (child-visited path node held over)
        ∙ opens-rest ranked path node held (reverse mid) s
        ∙ ap (λ h. visited path (t.worth node) held ∷ rest_notes t gap (level ∷ reverse mid) h) same
        ∙ ap (λ ls. visited path (t.worth node) held ∷ rest_notes t gap ls (max held (max (t.worth node) 0))) (sym (tops-push mid level)))
        seq

    -- the log begins with the root, and then comes its level
    pub sequence-start-log : sound t.root → seq_log t gap ≡ taken [] ∷ (visited [] (t.worth t.root) 0 ∷ rest_notes t gap (record { parent = []; given = 0; remaining = t.children t.root } ∷ []) (t.worth t.root))
    sequence-start-log root =
        let level : LevelView N = record { parent = []; given = 0; remaining = t.children t.root } in
        let same : max 0 (t.worth t.root) ≡ t.worth t.root = omega arith in
        ap (λ ns. taken [] ∷ ns)
        (sym (append-nil (visit_notes t gap (t.rank t.root) [] t.root 0))
        ∙ opens-rest ranked [] t.root 0 [] root
        ∙ ap (λ h. visited [] (t.worth t.root) 0 ∷ rest_notes t gap (level ∷ []) h) same)

    pub sequence-start : sound t.root → IsInSequence t gap (visited [] (t.worth t.root) 0 ∷ []) (record { parent = []; given = 0; remaining = t.children t.root } ∷ [])
    sequence-start root =
        let level : LevelView N = record { parent = []; given = 0; remaining = t.children t.root } in
        let same : t.worth t.root ≡ max (t.worth t.root) 0 = omega arith in
        record { is = sequence-start-log root ∙ ap (λ h. taken [] ∷ (visited [] (t.worth t.root) 0 ∷ rest_notes t gap (level ∷ []) h)) same }

module _ {N : Type 0} (t : SearchTree N) (keying : Keying) (is_plain : kind_of keying ≡ plain) where
  -- what a seat with plain keys has offered along entries: the worths of the visits
  pub goes-offered : (old new : SeatView) (notes : List Note) → SeatGoes t keying old notes new → new.offered ≡ old.offered ++ values (visits notes)
  goes-offered old new [] goes = ap (λ (s : SeatView). s.offered) goes ∙ sym (append-nil old.offered)
  goes-offered old new (visited path worth held ∷ notes) goes =
      goes-offered (has_offered (has_read old goes.0) (key_of keying worth)) new notes goes.2
      ∙ ap (λ key. (old.offered ++ key ∷ []) ++ values (visits notes)) (key_of-plain keying worth is_plain)
      ∙ append_assoc old.offered (worth ∷ []) (values (visits notes))
  goes-offered old new (cut path bound held ∷ notes) goes = goes-offered (has_read old goes.0) new notes goes.2
  goes-offered old new (taken path ∷ notes) goes = goes-offered old new notes goes
  goes-offered old new (spawned path ∷ notes) goes = goes-offered old new notes goes
  goes-offered old new (handed path ∷ notes) goes = goes-offered old new notes goes
  goes-offered old new (ended path ∷ notes) goes = goes-offered old new notes goes

  -- the word that a seat with the whole share reads next is the greatest worth so far
  pub sequence-word : (first now : SeatView) (notes : List Note) (word : ℕ) → SeatGoes t keying first notes now → first.offered ≡ [] → first.share ≡ first.best.seats → IsRead now word → word ≡ visited_worth notes
  sequence-word first now notes word goes nothing whole read =
      let stays = goes-stays t keying first now notes goes in
      IsRead-maximum now word (stays.share ∙ whole ∙ ap (λ b. b.seats) (sym stays.best)) read
      ∙ ap maximum (goes-offered first now notes goes ∙ ap (λ xs. xs ++ values (visits notes)) nothing)
