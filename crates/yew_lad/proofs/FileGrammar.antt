-- The laws of graph files.
use Rattle.std.proofs.Common.{◌≡◌, ℕ, zero, suc, ◌+◌, ◌<◌, ◌≤◌, Bool, cond, ltb, List, [], ◌∷◌, ◌++◌, length, take, drop, refl, sym, ap, subst, ◌∙◌, arith, inl, inr}
use Rattle.std.specs.Prelude.{flat_map}
use Rattle.std.specs.List.{AllZip, AllByRecursion}
use Rattle.std.proofs.lemmas.Bool.{cases_Bool, ltb-false, lt-ltb, le-ltb}
use Rattle.std.proofs.lemmas.List.{append-nil, length-append, length-take, take-append-drop, drop_at}
use Rattle.yew_text.specs.Words.{TextWord, words_of, end_line}
use Rattle.yew_text.specs.Numbers.{greatest, IsNumber, Fault}
use Rattle.yew_text.specs.Grammar.{DueBelow, DueEnd, HasBound, IsBounded, Fits, AreDue, IsWhole}
use Rattle.yew_text.proofs.Readings.{one_offence, not_both, one_list, all_fit, either_of, AreDue-append, AreDue-parts, AreDue-shift, AreDue-unshift}
use Rattle.yew_lad.specs.Files.{vertex_numbers, graph_numbers, AreVertices, digraph_of, vertices_shape, graph_shape, FileLaws}

vertices_bounds : (n left : ℕ) (ns : List ℕ) → n ≤ suc greatest → HasBound (vertices_shape n left ns)
vertices_bounds n zero ns few = tt
vertices_bounds n (suc left) [] few = omega arith
vertices_bounds n (suc left) (count ∷ ns) few = elim (cases_Bool (ltb (length ns) count)) [ inl lt ↦ rw lt few | inr ge ↦ rw ge (vertices_bounds n left (drop count ns) few) ]

-- behind the successors of a vertex come those of the next
pub next_vertex : (n left : ℕ) (successors ns : List ℕ) → vertices_shape n (suc left) ((length successors ∷ successors) ++ ns) ≡ vertices_shape n left ns
next_vertex n left successors ns = rw (le-ltb (length (successors ++ ns)) (length successors) (omega (arith, length-append successors ns)), drop_at successors ns (length successors) refl) refl

successors_due : (n left count : ℕ) (done rest : List ℕ) → length done + length rest ≡ count → AllByRecursion (λ v. v < n) rest → AreDue (vertices_shape n (suc left)) (count ∷ done) rest
successors_due n left count done [] e below = tt
successors_due n left count done (v ∷ rest) e below =
    (rw (lt-ltb (length done) count (omega arith)) below.0, successors_due n left count (done ++ v ∷ []) rest (omega (arith, length-append done (v ∷ []))) below.1)

abbrev Small : List (List ℕ) → Type 0
Small lists = AllByRecursion (λ successors. length successors ≤ greatest) lists

vertices_due : (n left : ℕ) (lists : List (List ℕ)) → length lists ≡ left → Small lists → AreVertices n lists → AreDue (vertices_shape n left) [] (flat_map vertex_numbers lists)
vertices_due n left [] e small vertices = tt
vertices_due n zero (successors ∷ lists) e small vertices = absurd (omega arith)
vertices_due n (suc left) (successors ∷ lists) e small vertices =
    let more = flat_map vertex_numbers lists in
    let shifted : AreDue (vertices_shape n (suc left)) ((length successors ∷ successors) ++ []) more = AreDue-shift (vertices_shape n (suc left)) (vertices_shape n left) (length successors ∷ successors) [] more (next_vertex n left successors) (vertices_due n left lists (omega arith) small.1 vertices.1) in (
      (let fits = small.0 in let below : length successors < suc greatest = omega arith in below),
      AreDue-append (vertices_shape n (suc left)) (length successors ∷ []) successors more
          (successors_due n left (length successors) [] successors (let f : 0 + length successors ≡ length successors = omega arith in f) vertices.0)
          (subst (λ (ns : List ℕ). AreDue (vertices_shape n (suc left)) (length successors ∷ ns) more) (append-nil successors) shifted),
    )

pub vertices_end : (n left : ℕ) (lists : List (List ℕ)) → length lists ≡ left → vertices_shape n left (flat_map vertex_numbers lists) ≡ DueEnd
vertices_end n zero lists e = refl
vertices_end n (suc left) [] e = absurd (omega arith)
vertices_end n (suc left) (successors ∷ lists) e = next_vertex n left successors (flat_map vertex_numbers lists) ∙ vertices_end n left lists (omega arith)

small_parts : (xs ys : List ℕ) → AllByRecursion (λ m. m ≤ greatest) (xs ++ ys) → AllByRecursion (λ m. m ≤ greatest) ys
small_parts [] ys h = h
small_parts (x ∷ xs) ys h = small_parts xs ys h.1

small : (lists : List (List ℕ)) → AllByRecursion (λ m. m ≤ greatest) (flat_map vertex_numbers lists) → Small lists
small [] h = tt
small (successors ∷ lists) h = (h.0, small lists (small_parts successors (flat_map vertex_numbers lists) h.1))

pub whole_of : (words : List TextWord) (named : List (List ℕ)) → AllZip IsNumber words (graph_numbers named) → AreVertices (length named) named → IsWhole graph_shape words (graph_numbers named)
whole_of words named h vertices =
    let fit = all_fit words (graph_numbers named) h in
    let n = length named in
    record {
      are_numbers = h;
      are_due = (within n fit.0, AreDue-shift graph_shape (vertices_shape n n) (n ∷ []) [] (flat_map vertex_numbers named) (λ xs. refl) (vertices_due n n named refl (small named fit.1) vertices));
      ends = vertices_end n n named refl;
    }
  where
    within : (m : ℕ) → m ≤ greatest → m < suc greatest
    within m l = omega arith

-- ---- and back

not_due : {A : Type 0} (limit : ℕ) → DueBelow limit ≡ DueEnd → A
not_due limit e = absurd cc

all_below : (n left count : ℕ) (done rest : List ℕ) → length done + length rest ≤ count → AreDue (vertices_shape n (suc left)) (count ∷ done) rest → AllByRecursion (λ v. v < n) rest
all_below n left count done [] few due = tt
all_below n left count done (v ∷ rest) few due = (
  let lt : length done < count = omega arith in let d : Fits (cond (ltb (length done) count) (DueBelow n) (vertices_shape n left (drop count done))) v = due.0 in subst (λ (b : Bool). Fits (cond b (DueBelow n) (vertices_shape n left (drop count done))) v) (lt-ltb (length done) count lt) d,
  all_below n left count (done ++ v ∷ []) rest (omega (arith, length-append done (v ∷ []))) due.1,
)

record Written (n left : ℕ) (numbers : List ℕ) : Type 0 where
  lists : List (List ℕ)
  count : length lists ≡ left
  are : numbers ≡ flat_map vertex_numbers lists
  vertices : AreVertices n lists

written : (n left : ℕ) (numbers : List ℕ) → AreDue (vertices_shape n left) [] numbers → vertices_shape n left numbers ≡ DueEnd → Written n left numbers
written n zero [] due ends = record { lists = []; count = refl; are = refl; vertices = tt }
written n zero (m ∷ numbers) due ends = absurd due.0
written n (suc left) [] due ends = not_due (suc greatest) ends
written n (suc left) (count ∷ numbers) due ends =
    elim (cases_Bool (ltb (length numbers) count)) [
      | inl lt ↦ not_due n (subst (λ (b : Bool). cond b (DueBelow n) (vertices_shape n left (drop count numbers)) ≡ DueEnd) lt ends)
      | inr ge ↦
          let few : count ≤ length numbers = ltb-false _ _ ge in
          let front = take count numbers in
          let back = drop count numbers in
          let front_count : length front ≡ count = omega (arith, length-take count numbers) in
          let parts = AreDue-parts (vertices_shape n (suc left)) (count ∷ []) front back (subst (λ (ns : List ℕ). AreDue (vertices_shape n (suc left)) (count ∷ []) ns) (sym (take-append-drop count numbers)) due.1) in
          let shifted : AreDue (vertices_shape n (suc left)) ((length front ∷ front) ++ []) back = subst (λ (ns : List ℕ). AreDue (vertices_shape n (suc left)) ns back) (ap (λ (c : ℕ). c ∷ front) (sym front_count) ∙ ap (λ (ns : List ℕ). length front ∷ ns) (sym (append-nil front))) parts.1 in
          let rest = written n left back (AreDue-unshift (vertices_shape n (suc left)) (vertices_shape n left) (length front ∷ front) [] back (next_vertex n left front) shifted) (subst (λ (b : Bool). cond b (DueBelow n) (vertices_shape n left (drop count numbers)) ≡ DueEnd) ge ends) in
          record {
            lists = front ∷ rest.lists;
            count = ap suc rest.count;
            are = ap (λ (c : ℕ). c ∷ numbers) (sym front_count) ∙ ap (λ (ns : List ℕ). length front ∷ ns) (sym (take-append-drop count numbers)) ∙ ap (λ (ns : List ℕ). (length front ∷ front) ++ ns) rest.are;
            vertices = (all_below n left count [] front (let f : 0 + length front ≤ count = omega arith in f) parts.0, rest.vertices);
          }
    ]

record WrittenGraph (numbers : List ℕ) : Type 0 where
  named : List (List ℕ)
  is : numbers ≡ graph_numbers named
  vertices : AreVertices (length named) named

written_graph : (numbers : List ℕ) → AreDue graph_shape [] numbers → graph_shape numbers ≡ DueEnd → WrittenGraph numbers
written_graph [] due ends = not_due (suc greatest) ends
written_graph (n ∷ numbers) due ends =
    let w = written n n numbers (AreDue-unshift graph_shape (vertices_shape n n) (n ∷ []) [] numbers (λ xs. refl) due.1) ends in
    record {
      named = w.lists;
      is = ap (λ (m : ℕ). m ∷ numbers) (sym w.count) ∙ ap (λ (ns : List ℕ). length w.lists ∷ ns) w.are;
      vertices = subst (λ (m : ℕ). AreVertices m w.lists) (sym w.count) w.vertices;
    }

-- a limit is a number of the file
pub bounds : IsBounded graph_shape
bounds [] fit = omega arith
bounds (n ∷ ns) fit = vertices_bounds n n ns (let l : n ≤ greatest = fit.0 in omega arith)

same_length_parts : (a b x y : List ℕ) → length a ≡ length b → a ++ x ≡ b ++ y → (a ≡ b) × (x ≡ y)
same_length_parts [] [] x y l e = (refl, e)
same_length_parts [] (n ∷ b) x y l e = absurd (omega arith)
same_length_parts (m ∷ a) [] x y l e = absurd (omega arith)
same_length_parts (m ∷ a) (n ∷ b) x y l e =
    let h : m ≡ n = cc in
    let t : a ++ x ≡ b ++ y = cc in
    let p = same_length_parts a b x y (omega arith) t in
    ((λ i. h i ∷ p.0 i), p.1)

same_lists : (a b : List (List ℕ)) → flat_map vertex_numbers a ≡ flat_map vertex_numbers b → a ≡ b
same_lists [] [] e = refl
same_lists [] (y ∷ b) e = absurd cc
same_lists (x ∷ a) [] e = absurd cc
same_lists (x ∷ a) (y ∷ b) e =
    let l : length x ≡ length y = cc in
    let t : x ++ flat_map vertex_numbers a ≡ y ++ flat_map vertex_numbers b = cc in
    let p = same_length_parts x y (flat_map vertex_numbers a) (flat_map vertex_numbers b) l t in
    let more = same_lists a b p.1 in
    λ i. p.0 i ∷ more i

same_named : (a b : List (List ℕ)) → graph_numbers a ≡ graph_numbers b → a ≡ b
same_named a b e =
    let r : flat_map vertex_numbers a ≡ flat_map vertex_numbers b = cc in
    same_lists a b r

pub file_laws : FileLaws
file_laws = record {
  one_graph = λ bytes a b h k. h.graph_is ∙ ap digraph_of (same_named h.named k.named (one_list (words_of bytes) (graph_numbers h.named) (graph_numbers k.named) h.numbers k.numbers)) ∙ sym k.graph_is;
  one_kind = λ bytes kind other line other_line h k. ap (λ (f : Fault). f.kind) (one_offence graph_shape (end_line bytes) (words_of bytes) kind other line other_line h k);
  one_line = λ bytes kind other line other_line h k. ap (λ (f : Fault). f.line) (one_offence graph_shape (end_line bytes) (words_of bytes) kind other line other_line h k);
  not_both = λ bytes graph kind line h. not_both graph_shape (end_line bytes) (words_of bytes) (graph_numbers h.named) kind line (whole_of (words_of bytes) h.named h.numbers h.vertices);
  either = λ bytes. elim (either_of graph_shape (end_line bytes) (words_of bytes) bounds) [
    | inl w ↦ let g = written_graph w.0 w.1.are_due w.1.ends in inl (digraph_of g.named, record { named = g.named; numbers = subst (λ (ns : List ℕ). AllZip IsNumber (words_of bytes) ns) g.is w.1.are_numbers; vertices = g.vertices; graph_is = refl })
    | inr o ↦ inr o
  ];
}
