-- The owners and the rows of places become passes.
use Rattle.std.proofs.Common.{◌≡◌, ℕ, ◌+◌, ◌<◌, ◌∙◌, zero, suc, List, [], ◌∷◌, ◌++◌, length, map, replicate, get_or, sym, refl, ap, subst, ext_get_or}
use Rattle.std.proofs.Common.{length-append, arith}
use Rattle.std.specs.Prelude.{Option, insert}
use Rattle.std.proofs.lemmas.List.{get_or_append_left, get_or_default, length-map}
use Rattle.std.proofs.Math.Seq.{get_or-append_seam}
use native.Mathlib.Decide.{ℕ_discrete}
use Rattle.yew_pool.specs.declared.rule.Hand.{Hand}
use Rattle.yew_pool.specs.Places.{DequeId, PlaceView}
use Rattle.yew_pool.specs.Closing.{deques}
use Rattle.yew_pool.specs.Passes.{PassView, taken_at, pass_view, IsPlaced, new_pass}
use Rattle.yew_pool.specs.Making.{whole_among, IsOwner, IsNewPlace, IsRow, IsRowing, IsReady, AreReady, AreMade, IsSeating}
use Rattle.yew_pool.proofs.Starting.{id_at}

module _ {T Q : Type 0} where
  took_none : (row : List (PlaceView T Q)) → ((k : ℕ) (d : PlaceView T Q) → k < length row → (get_or row k d).hand.took ≡ []) → taken_at row ≡ []
  took_none [] none = refl
  took_none (p ∷ ps) none = ap (λ l. l ++ taken_at ps) (none 0 p (omega arith)) ∙ took_none ps (λ k d below. none (suc k) d (omega arith))

  found_none : (row : List (PlaceView T Q)) → ((k : ℕ) (d : PlaceView T Q) → k < length row → (get_or row k d).found_empty ≡ 0)
      → map (λ (p : PlaceView T Q). p.found_empty) row ≡ replicate (length row) 0
  found_none [] none = refl
  found_none (p ∷ ps) none = λ i. none 0 p (omega arith) i ∷ found_none ps (λ k d below. none (suc k) d (omega arith)) i

  place_took : (members : Option Q) (whole number at : ℕ) (ids : List DequeId) (place : PlaceView T Q) → IsNewPlace members whole number at ids place
      → place.hand.took ≡ []
  place_took members whole number at ids place is = by_case (ℕ_discrete at number)
    where
      by_case : Dec (at ≡ number) → place.hand.took ≡ []
      by_case (yes same) = ap (λ (v : Hand T Q). v.took) (is.idle same)
      by_case (no other) = ap (λ (v : Hand T Q). v.took) (is.other other)

  placed : (members about : Option Q) (whole number at : ℕ) (ids : List DequeId) (place : PlaceView T Q) → IsNewPlace members whole number at ids place
      → about ≡ members → IsPlaced about number at place
  placed members about whole number at ids place is same = record {
    puts_nothing = by_case (ℕ_discrete at number);
    idle = λ e. (ap (λ (v : Hand T Q). v.share) (is.idle e), ap (λ (v : Hand T Q). v.took) (is.idle e));
    other = λ ne. (ap (λ (v : Hand T Q). v.share) (is.other ne), ap (λ (v : Hand T Q). v.members) (is.other ne) ∙ sym same);
  }
    where
      by_case : Dec (at ≡ number) → place.hand.put ≡ []
      by_case (yes e) = ap (λ (v : Hand T Q). v.put) (is.idle e)
      by_case (no ne) = ap (λ (v : Hand T Q). v.put) (is.other ne)

  -- an owner and a row are a new pass
  ready_at : (members : Option Q) (whole number count : ℕ) (ids : List DequeId) (own : PlaceView T Q) (row : List (PlaceView T Q))
      → IsOwner members whole count number own → IsRow members whole number ids row
      → length row ≡ count → length ids ≡ count → number < count → whole ≡ whole_among count → get_or ids number own.deque ≡ own.deque
      → IsReady members number ids own row
  ready_at members whole number count ids own row o r long ids_long within all id =
      let share : own.hand.share ≡ count = (let p = o.past within in omega (arith, p, all)) in
      let whole_is : own.hand.whole ≡ whole = ap (λ (v : Hand T Q). v.whole) o.hand in
      let about : own.hand.members ≡ members = ap (λ (v : Hand T Q). v.members) o.hand in
      let took : taken_at row ≡ [] = took_none row (λ k d below. place_took members whole number k ids (get_or row k d) (r.each k d below)) in
      let found : map (λ (p : PlaceView T Q). p.found_empty) row ≡ replicate (length ids) 0 =
      found_none row (λ k d below. (r.each k d below).found) ∙ ap (λ n. replicate n 0) (long ∙ sym ids_long) in record {
        seated = record {
          within = omega arith;
          here = λ d. (let p = (r.each number d (omega arith)).deque in p ∙ (get_or_default ids number _ own.deque (omega arith) ∙ id));
          share = share ∙ sym long;
          whole = omega (arith, whole_is, all, long);
          shares = (let s = r.past (omega arith) in omega (arith, s, share, whole_is, all, long));
          each = λ at d below. placed members own.hand.members whole number at ids (get_or row at d) (r.each at d below) about;
        };
        new = λ i. record {
          pool = record { deques = row_ids i };
          number = number;
          share = 1;
          members = about i;
          put = ap (λ (v : Hand T Q). v.put) o.hand i;
          took = nothing (ap (λ (v : Hand T Q). v.took) o.hand) took i;
          found_empty = found i;
        };
        long = long ∙ sym ids_long;
      }
    where
      nothing : own.hand.took ≡ [] → taken_at row ≡ [] → own.hand.took ++ taken_at row ≡ []
      nothing a b = λ i. a i ++ b i

      row_ids : map (λ (p : PlaceView T Q). p.deque) row ≡ ids
      row_ids = ext_get_or own.deque (map (λ (p : PlaceView T Q). p.deque) row) ids
          (length-map row (λ (p : PlaceView T Q). p.deque) ∙ (long ∙ sym ids_long)) same
        where
          same : (k : ℕ) → k < length (map (λ (p : PlaceView T Q). p.deque) row)
              → get_or (map (λ (p : PlaceView T Q). p.deque) row) k own.deque ≡ get_or ids k own.deque
          same k below =
              let less : k < length row = omega (arith, below, length-map row (λ (p : PlaceView T Q). p.deque)) in
              id_at (map (λ (p : PlaceView T Q). p.deque) row) row k own own.deque refl less
              ∙ ((r.each k own less).deque ∙ get_or_default ids k _ own.deque (omega arith))

  pub rows_end : (members : Option Q) (whole number count : ℕ) (ids : List DequeId) (owns : List (PlaceView T Q)) (rows : List (List (PlaceView T Q)))
      → IsRowing members whole number ids owns rows → whole ≡ whole_among count → count ≡ length ids → number ≡ count
      → AreReady members ids owns rows
  rows_end members whole number count ids owns rows is all many end = record {
    long = is.long ∙ (end ∙ (many ∙ sym is.many));
    each = λ k own row below. (
        let m = is.many in let l = is.long in
        let less : k < length rows = omega (arith, below, m, l, end, many) in
        ready_at members whole k number ids (get_or owns k own) (get_or rows k row) (is.owners.ahead k own (omega arith) below) (is.made.each k row less)
        (is.made.long k row less ∙ (sym many ∙ sym end)) (sym many ∙ sym end)
        (omega (arith, below, m, end, many)) (all ∙ ap whole_among (sym end)) (id_at ids owns k own _ is.owners.ids_are below)
        );
  }

  pub seats_begin : (members : Option Q) (ids : List DequeId) (owns : List (PlaceView T Q)) (rows : List (List (PlaceView T Q)))
      → AreReady members ids owns rows → ids ≡ deques owns → IsSeating members ids owns rows []
  seats_begin members ids owns rows are same = record {
    ready = are;
    made = record {
      long = (let l = ap (λ (d : List DequeId). length d) same in let m = length-map owns (λ (p : PlaceView T Q). p.deque) in
          omega (arith, l, m));
      each = λ at other below. absurd (omega arith);
    };
  }

  -- the last owner and the last row
  pub seats_at : (members : Option Q) (ids : List DequeId) (more rest : List (PlaceView T Q)) (more_rows rest_rows : List (List (PlaceView T Q)))
      (passes : List (PassView T Q)) (own : PlaceView T Q) (row : List (PlaceView T Q)) → IsSeating members ids more more_rows passes
      → more ≡ rest ++ own ∷ [] → more_rows ≡ rest_rows ++ row ∷ [] → IsReady members (length rest) ids own row
  seats_at members ids more rest more_rows rest_rows passes own row is e f =
      let long : length rest_rows ≡ length rest = (
      let l = is.ready.long in let a = ap (λ (l : List (PlaceView T Q)). length l) e in let b = ap (λ (l : List (List (PlaceView T Q))). length l) f in
      omega (arith, l, a, b, length-append rest (own ∷ []), length-append rest_rows (row ∷ []))
      ) in
      let own_is : get_or more (length rest) own ≡ own = ap (λ (l : List (PlaceView T Q)). get_or l (length rest) own) e ∙ get_or-append_seam rest own [] own in
      let row_is : get_or more_rows (length rest) row ≡ row =
      ap (λ (l : List (List (PlaceView T Q))). get_or l (length rest) row) f
      ∙ (ap (λ j. get_or (rest_rows ++ row ∷ []) j row) (sym long) ∙ get_or-append_seam rest_rows row [] row) in
      subst (λ (t : PlaceView T Q × List (PlaceView T Q)). IsReady members (length rest) ids t.0 t.1) (λ i. (own_is i, row_is i))
      (is.ready.each (length rest) own row (let a = ap (λ (l : List (PlaceView T Q)). length l) e in omega (arith, a, length-append rest (own ∷ []))))

  pub seats_more : (members : Option Q) (ids : List DequeId) (more rest : List (PlaceView T Q)) (more_rows rest_rows : List (List (PlaceView T Q)))
      (passes later : List (PassView T Q)) (own : PlaceView T Q) (row : List (PlaceView T Q)) (pass : PassView T Q) (number : ℕ)
      → IsSeating members ids more more_rows passes → more ≡ rest ++ own ∷ [] → more_rows ≡ rest_rows ++ row ∷ [] → number ≡ length rest
      → pass ≡ pass_view number own row → later ≡ insert passes 0 pass → IsSeating members ids rest rest_rows later
  seats_more members ids more rest more_rows rest_rows passes later own row pass number is e f number_is pass_is later_is =
      let longer : length more ≡ length rest + 1 = ap (λ (l : List (PlaceView T Q)). length l) e ∙ length-append rest (own ∷ []) in
      let longer_rows : length more_rows ≡ length rest_rows + 1 = ap (λ (l : List (List (PlaceView T Q))). length l) f ∙ length-append rest_rows (row ∷ []) in
      let at = seats_at members ids more rest more_rows rest_rows passes own row is e f in
      let new : pass ≡ new_pass (record { deques = ids }) members (length rest) = pass_is ∙ (ap (λ n. pass_view n own row) number_is ∙ at.new) in record {
        ready = record {
          long = (let l = is.ready.long in omega (arith, l, longer, longer_rows));
          each = λ k o r below.
              subst (λ (t : PlaceView T Q × List (PlaceView T Q)). IsReady members k ids t.0 t.1)
              (λ i. (front_own k o below i, front_row k r below longer longer_rows i)) (is.ready.each k o r (omega (arith, below, longer)));
        };
        made = subst (λ (l : List (PassView T Q)). AreMade members ids (length rest) l) (sym later_is) record {
          long = (let l = is.made.long in omega (arith, l, longer));
          each = λ at d below. each at d below new longer;
        };
      }
    where
      front_own : (k : ℕ) (o : PlaceView T Q) → k < length rest → get_or more k o ≡ get_or rest k o
      front_own k o below = ap (λ (l : List (PlaceView T Q)). get_or l k o) e ∙ get_or_append_left rest (own ∷ []) o k below

      front_row : (k : ℕ) (r : List (PlaceView T Q)) → k < length rest → length more ≡ length rest + 1 → length more_rows ≡ length rest_rows + 1
          → get_or more_rows k r ≡ get_or rest_rows k r
      front_row k r below longer longer_rows =
          ap (λ (l : List (List (PlaceView T Q))). get_or l k r) f
          ∙ get_or_append_left rest_rows (row ∷ []) r k (let l = is.ready.long in omega (arith, l, longer, longer_rows, below))

      each : (at : ℕ) (d : PassView T Q) → at < length (pass ∷ passes) → pass ≡ new_pass (record { deques = ids }) members (length rest)
          → length more ≡ length rest + 1 → get_or (pass ∷ passes) at d ≡ new_pass (record { deques = ids }) members (length rest + at)
      each zero d below new longer = new ∙ ap (λ n. new_pass (record { deques = ids }) members n) (let e : length rest ≡ length rest + 0 = omega arith in e)
      each (suc at) d below new longer =
          is.made.each at d (omega arith)
          ∙ ap (λ n. new_pass (record { deques = ids }) members n) (let e : length more + at ≡ length rest + suc at = omega (arith, longer) in e)
