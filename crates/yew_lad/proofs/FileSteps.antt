-- One number more of a graph file.
use Rattle.std.proofs.Common.{◌≡◌, ℕ, zero, suc, ◌+◌, ◌-◌, ◌<◌, ◌≤◌, Bool, false, ◌&&◌, ◌||◌, ◌==◌, List, [], ◌∷◌, ◌++◌, length, slice_index_or, Ok, Err, refl, sym, ap, ◌∙◌, append_assoc, append-nil, arith}
use Rattle.std.specs.Prelude.{flat_map}
use Rattle.std.specs.List.{AllByRecursion}
use Rattle.std.proofs.lemmas.Bool.{lt-ltb}
use Rattle.std.proofs.lemmas.Bool.Decides.{nat_tests}
use Rattle.std.proofs.lemmas.List.{length-append}
use Rattle.yew_laws.specs.Sets.{contains}
use Rattle.yew_text.specs.declared.text.TextKind.TheVariants.{TooBig}
use Rattle.yew_text.specs.declared.text.TextFault.{TextFault}
use Rattle.yew_text.specs.Numbers.{greatest}
use Rattle.yew_text.specs.Position.{Position, SameText}
use Rattle.yew_text.specs.Reading.{TakesNumber, text_fault}
use Rattle.yew_text.specs.Grammar.{DueBelow, DueEnd, due_number, reading}
use Rattle.yew_text.proofs.Steps.{refusal, reading_next, reading_fault, reading_below, reading_past, reading_fault_below}
use Rattle.yew_laws.proofs.Members.{AllByRecursion-append}
use Rattle.yew_lad.specs.Bits.{BitTable, in_row, HasVertices}
use Rattle.yew_lad.specs.Files.{vertex_numbers, vertices_shape, graph_shape}
use Rattle.yew_lad.specs.Reading.{numbers_so_far, AddsArcs, SuccessorsRead, VertexRead, EndsVertex, VerticesRead}
use Rattle.yew_lad.proofs.FileGrammar.{next_vertex, vertices_end}

-- behind the numbers of some vertices come those of the vertices that are left
behind : (n left more : ℕ) (named : List (List ℕ)) (ns : List ℕ) → left ≡ length named + more → vertices_shape n left (flat_map vertex_numbers named ++ ns) ≡ vertices_shape n more ns
behind n left more [] ns e = let same : left ≡ more = omega arith in ap (λ l. vertices_shape n l ns) same
behind n zero more (xs ∷ named) ns e = absurd (omega arith)
behind n (suc left) more (xs ∷ named) ns e =
    ap (vertices_shape n (suc left)) (append_assoc (vertex_numbers xs) (flat_map vertex_numbers named) ns)
    ∙ next_vertex n left xs (flat_map vertex_numbers named ++ ns)
    ∙ behind n left more named ns (omega arith)

named-push : (named : List (List ℕ)) (xs : List ℕ) → flat_map vertex_numbers (named ++ xs ∷ []) ≡ flat_map vertex_numbers named ++ vertex_numbers xs
named-push [] xs = append-nil (vertex_numbers xs)
named-push (ys ∷ named) xs = ap (λ (ns : List ℕ). vertex_numbers ys ++ ns) (named-push named xs) ∙ sym (append_assoc (vertex_numbers ys) (flat_map vertex_numbers named) (vertex_numbers xs))

-- the number of successors of a vertex is due
count_due : (n : ℕ) (named : List (List ℕ)) → length named < n → graph_shape (numbers_so_far n named) ≡ due_number
count_due n named few =
    let left : n ≡ length named + suc (n - suc (length named)) = omega arith in
    ap (vertices_shape n n) (sym (append-nil (flat_map vertex_numbers named))) ∙ behind n n (suc (n - suc (length named))) named [] left

-- a successor of a vertex is due
successor_due : (n count : ℕ) (named : List (List ℕ)) (some : List ℕ) → length named < n → length some < count → graph_shape (numbers_so_far n named ++ count ∷ some) ≡ DueBelow n
successor_due n count named some few more =
    let left : n ≡ length named + suc (n - suc (length named)) = omega arith in
    behind n n (suc (n - suc (length named))) named (count ∷ some) left ∙ rw (lt-ltb (length some) count more) refl

-- nothing more is due behind the last vertex
pub whole : (n : ℕ) (named : List (List ℕ)) → length named ≡ n → graph_shape (numbers_so_far n named) ≡ DueEnd
whole n named all = vertices_end n n named all

contains-push : (xs : List ℕ) (x y : ℕ) → contains (xs ++ x ∷ []) y ≡ (contains xs y || contains (x ∷ []) y)
contains-push [] x y = refl
contains-push (z ∷ xs) x y = ap (λ b. z == y || b) (contains-push xs x y) ∙ assoc (z == y) (contains xs y) (contains (x ∷ []) y)
  where
    assoc : (a b c : Bool) → (a || (b || c)) ≡ ((a || b) || c)
    assoc a b c = grind arith

-- no arc is added
adds_none : (n u : ℕ) (table : BitTable) → AddsArcs n u table [] table
adds_none n u table = record { same_rows = refl; same_width = refl; bits = λ has a b l. none (in_row table a b) (a == u) }
  where
    none : (b c : Bool) → b ≡ (b || (c && false))
    none b c = grind arith

adds_more : (n u v : ℕ) (old mid new : BitTable) (named : List ℕ) → AddsArcs n u old named mid → AddsArcs n u mid (v ∷ []) new → AddsArcs n u old (named ++ v ∷ []) new
adds_more n u v old mid new named first then_one = record {
  same_rows = then_one.same_rows ∙ first.same_rows;
  same_width = then_one.same_width ∙ first.same_width;
  bits = λ has a b l.
      then_one.bits (record { rows_are = first.same_rows ∙ has.rows_are; width_is = first.same_width ∙ has.width_is; few = has.few }) a b l
      ∙ ap (λ c. c || (a == u && contains (v ∷ []) b)) (first.bits has a b l)
      ∙ both (in_row old a b) (a == u) (contains named b) (contains (v ∷ []) b)
      ∙ ap (λ c. in_row old a b || (a == u && c)) (sym (contains-push named v b));
}
  where
    both : (b e c d : Bool) → ((b || (e && c)) || (e && d)) ≡ (b || (e && (c || d)))
    both b e c d = grind arith

module _ (n u : ℕ) (few : u < n) (start : Position) (table : BitTable) where
  pub count_fault : (new : Position) (f : TextFault) → TakesNumber start (Err f) new → EndsVertex n u start f
  count_fault new f takes before size =
      reading_fault graph_shape (numbers_so_far n before) start new (count_due n before (omega arith)) f takes

  -- no successor is read yet
  pub none_read : (next : Position) (count : ℕ) → TakesNumber start (Ok count) next → SameText start next → SuccessorsRead n u count 0 start table next table
  none_read next count takes same = record {
    named = [];
    read_are = refl;
    vertices = tt;
    goes_on = λ before size. reading_next graph_shape (numbers_so_far n before) start next (count_due n before (omega arith)) count takes same;
    adds = adds_none n u table;
  }

  module _ (count read : ℕ) (more : read < count) (at : Position) (now : BitTable) (so_far : SuccessorsRead n u count read start table at now) where
    due : (before : List (List ℕ)) → length before ≡ u → graph_shape (numbers_so_far n before ++ count ∷ so_far.named) ≡ DueBelow n
    due before size = let e = so_far.read_are in successor_due n count before so_far.named (omega arith) (omega arith)

    pub successor_fault : n ≤ suc greatest → (new : Position) (f : TextFault) → TakesNumber at (Err f) new → EndsVertex n u start f
    successor_fault small new f takes before size =
        so_far.goes_on before size ∙ reading_fault_below graph_shape (numbers_so_far n before ++ count ∷ so_far.named) at new n (due before size) f small takes

    pub no_vertex : (new : Position) (v line : ℕ) → TakesNumber at (Ok v) new → n ≤ v → line ≡ new.line → EndsVertex n u start (record { kind = TooBig; line = line })
    no_vertex new v line takes past is before size =
        so_far.goes_on before size ∙ reading_past graph_shape (numbers_so_far n before ++ count ∷ so_far.named) at new n (due before size) v takes past
        ∙ ap (λ (l : ℕ). refusal (record { kind = TooBig; line = l })) (sym is)

    pub successor_read : (new : Position) (v : ℕ) (after : BitTable) → TakesNumber at (Ok v) new → SameText at new → v < n → AddsArcs n u now (v ∷ []) after → SuccessorsRead n u count (read + 1) start table new after
    successor_read new v after takes same below adds = record {
      named = so_far.named ++ v ∷ [];
      read_are = let e = so_far.read_are in let l = length-append so_far.named (v ∷ []) in omega arith;
      vertices = AllByRecursion-append (λ w. w < n) so_far.named (v ∷ []) so_far.vertices (below, tt);
      goes_on = λ before size.
          so_far.goes_on before size
          ∙ reading_below graph_shape (numbers_so_far n before ++ count ∷ so_far.named) at new n (due before size) v takes same below
          ∙ ap (λ (ns : List ℕ). reading graph_shape ns new) (append_assoc (numbers_so_far n before) (count ∷ so_far.named) (v ∷ []));
      adds = adds_more n u v table now after so_far.named so_far.adds adds;
    }

-- ---- vertices

suc-zero : (a : ℕ) → (suc a == 0) ≡ false
suc-zero a = grind (arith, nat_tests)

zero-suc : (n : ℕ) → (0 == suc n) ≡ false
zero-suc n = grind (arith, nat_tests)

suc-suc : (a n : ℕ) → (suc a == suc n) ≡ (a == n)
suc-suc a n = grind (arith, nat_tests)

or-none : (c : Bool) → c ≡ (c || false)
or-none c = grind arith

named-more : (named : List (List ℕ)) (xs : List ℕ) (a b : ℕ) → contains (slice_index_or (named ++ xs ∷ []) a []) b ≡ (contains (slice_index_or named a []) b || (a == length named && contains xs b))
named-more [] xs zero b = refl
named-more [] xs (suc a) b = ap (λ t. t && contains xs b) (sym (suc-zero a))
named-more (ys ∷ named) xs zero b = or-none (contains ys b) ∙ ap (λ t. contains ys b || (t && contains xs b)) (sym (zero-suc (length named)))
named-more (ys ∷ named) xs (suc a) b = named-more named xs a b ∙ ap (λ t. contains (slice_index_or named a []) b || (t && contains xs b)) (sym (suc-suc a (length named)))

-- no vertex is read yet
pub no_vertices : (n : ℕ) (at : Position) (table : BitTable) → ((a b : ℕ) → in_row table a b ≡ false) → VerticesRead n 0 at at table
no_vertices n at table empty = record { named = []; read_are = refl; vertices = tt; goes_on = refl; bits = λ has a b l. empty a b }

module _ (n u : ℕ) (few : u < n) (start at : Position) (table : BitTable) (so_far : VerticesRead n u start at table) where
  pub vertex_fault : (f : TextFault) → EndsVertex n u at f → reading graph_shape (n ∷ []) start ≡ refusal (text_fault f)
  vertex_fault f ends = so_far.goes_on ∙ ends so_far.named so_far.read_are

  pub vertex_read : (new : Position) (after : BitTable) → VertexRead n u at table new after → VerticesRead n (u + 1) start new after
  vertex_read new after read =
      let more = read.read in record {
        named = so_far.named ++ more.named ∷ [];
        read_are = let e = so_far.read_are in let l = length-append so_far.named (more.named ∷ []) in omega arith;
        vertices = AllByRecursion-append (AllByRecursion (λ v. v < n)) so_far.named (more.named ∷ []) so_far.vertices (more.vertices, tt);
        goes_on =
            so_far.goes_on
            ∙ more.goes_on so_far.named so_far.read_are
            ∙ ap (λ (c : ℕ). reading graph_shape (numbers_so_far n so_far.named ++ c ∷ more.named) new) (sym more.read_are)
            ∙ ap (λ (ns : List ℕ). reading graph_shape (n ∷ ns) new) (sym (named-push so_far.named more.named));
        bits = λ has a b l.
            let had : HasVertices n table = record { rows_are = sym more.adds.same_rows ∙ has.rows_are; width_is = sym more.adds.same_width ∙ has.width_is; few = has.few } in
            more.adds.bits had a b l
            ∙ ap (λ c. c || (a == u && contains more.named b)) (so_far.bits had a b l)
            ∙ ap (λ m. contains (slice_index_or so_far.named a []) b || (a == m && contains more.named b)) (sym so_far.read_are)
            ∙ sym (named-more so_far.named more.named a b);
      }
