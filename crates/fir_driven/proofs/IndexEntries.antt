-- What the node at a place stands for is told by the nodes before it.
use Rattle.std.proofs.Common.{◌≡◌, ℕ, ◌+◌, ◌<◌, ◌≤◌, List, [], ◌∷◌, ◌++◌, length, take, drop, get_or, nat_lt, true, false, Option, Some, None, refl, sym, ap, ◌∙◌, arith, append_assoc, append-nil, ⊎_elim}
use Rattle.std.proofs.lemmas.List.{drop_more, get_or_append_left, get_or_at, get_or_past, length-take-le, take-append-drop}
use Rattle.std.proofs.lemmas.Bool.{cases_Bool}
use Rattle.std.proofs.lemmas.Bool.Decides.{nat_tests}
use Rattle.fir_leaf.specs.declared.node.Node.{Node}
use Rattle.fir_leaf.specs.declared.node.Node.TheVariants as code
use Rattle.fir_leaf.specs.declared.node.Pick.{Pick}
use Rattle.fir_meaning.specs.working.Terms as over
use Rattle.fir_meaning.specs.working.Terms.{no_picks, pick}
use Rattle.fir_leaf.specs.working.Nodes.{Entry, a_term, entries, entries_from, entry_at, entry_of, picks_at, picks_in, term_in}
use Rattle.fir_driven.specs.working.Indices.{IsIndex, earlier, nodes_up_to}

pub from_append : (known : List Entry) (xs zs : List Node) → entries_from known (xs ++ zs) ≡ entries_from (entries_from known xs) zs
unfolding entries_from
from_append known [] zs = refl
from_append known (x ∷ xs) zs = from_append (known ++ entry_of known x ∷ []) xs zs

from_known : (known : List Entry) (ns : List Node) → (more : List Entry) × (entries_from known ns ≡ known ++ more) × (length more ≡ length ns)
unfolding entries_from
from_known known [] = ([], sym (append-nil known), refl)
from_known known (n ∷ ns) =
    let r = from_known (known ++ entry_of known n ∷ []) ns in
    (entry_of known n ∷ r.0, r.1 ∙ append_assoc known (entry_of known n ∷ []) r.0, omega (arith, r.2))

pub length-entries : (ns : List Node) → length (entries ns) ≡ length ns
length-entries ns = let r = from_known [] ns in ap length r.1 ∙ r.2

-- one node, between those before and those behind
entries_around : (front : List Node) (n : Node) (back : List Node)
    → (more : List Entry) × (entries (front ++ n ∷ back) ≡ entries front ++ entry_of (entries front) n ∷ more)
unfolding entries_from
entries_around front n back =
    let known = entries front in
    let r = from_known (known ++ entry_of known n ∷ []) back in
    (r.0, from_append [] front (n ∷ back) ∙ r.1 ∙ append_assoc known (entry_of known n ∷ []) r.0)

around : (nodes : List Node) (i : ℕ) (n : Node) → i < length nodes → n ≡ get_or nodes i n → nodes ≡ take i nodes ++ n ∷ drop (i + 1) nodes
around nodes i n within is =
    sym (take-append-drop i nodes) ∙ ap (λ l. take i nodes ++ l) (drop_more nodes i n within ∙ ap (λ m. m ∷ drop (i + 1) nodes) (sym is))

pub node_entry : (nodes : List Node) (i : ℕ) (n : Node) → i < length nodes → n ≡ get_or nodes i n
    → entry_at (entries nodes) i ≡ entry_of (entries (take i nodes)) n
node_entry nodes i n within is =
    let front = take i nodes in
    let r = entries_around front n (drop (i + 1) nodes) in
    let front_length : length (entries front) ≡ i = length-entries front ∙ length-take-le i nodes (omega arith) in
    ap (λ l. entry_at (entries l) i) (around nodes i n within is) ∙ ap (λ l. entry_at l i) r.1
    ∙ get_or_at (entries front) (entry_of (entries front) n) r.0 (a_term over.zeros) i front_length

-- indices by a node, counted among the first so many
pub front_picks : (nodes : List Node) (i : ℕ) (p : Option ℕ) → i ≤ length nodes → picks_at (entries (take i nodes)) p ≡ picks_at (entries nodes) (earlier i p)
front_picks nodes i None le = refl
front_picks nodes i (Some j) le =
    let front = take i nodes in
    let r = from_known (entries front) (drop i nodes) in
    let known : entries nodes ≡ entries front ++ r.0 = ap entries (sym (take-append-drop i nodes)) ∙ from_append [] front (drop i nodes) ∙ r.1 in
    let front_length : length (entries front) ≡ i = length-entries front ∙ length-take-le i nodes le in
    ⊎_elim
    (λ (h : nat_lt j i ≡ true).
    let lt : j < length (entries front) = grind (arith, nat_tests) in
    rw h (ap picks_in (sym (ap (λ l. entry_at l j) known ∙ get_or_append_left (entries front) r.0 (a_term over.zeros) j lt))))
    (λ (h : nat_lt j i ≡ false).
    let le : length (entries front) ≤ j = grind (arith, nat_tests) in
    rw h (ap picks_in (get_or_past (entries front) j (a_term over.zeros) le)))
    (cases_Bool (nat_lt j i))

-- behind all nodes stands no index
pub past_picks : (nodes : List Node) (i : ℕ) → length nodes ≤ i → picks_at (entries nodes) (Some i) ≡ no_picks
past_picks nodes i le =
    let past : length (entries nodes) ≤ i = omega (arith, length-entries nodes) in
    ap picks_in (get_or_past (entries nodes) i (a_term over.zeros) past)

is_earlier : (i : ℕ) (p : Option ℕ) → nodes_up_to (earlier i p) < nodes_up_to (Some i)
is_earlier i None = omega arith
is_earlier i (Some j) =
    ⊎_elim
    (λ (h : nat_lt j i ≡ true). let lt : j < i = grind (arith, nat_tests) in rw h (omega arith))
    (λ (h : nat_lt j i ≡ false). rw h (omega arith))
    (cases_Bool (nat_lt j i))

no_picks_in : (known : List Entry) (n : Node) → ((p : Pick) → n ≡ code.Pick p → ⊥) → picks_in (entry_of known n) ≡ no_picks
no_picks_in known code.Zeros other = refl
no_picks_in known (code.Absent signed width ps) other = refl
no_picks_in known (code.Literal l) other = refl
no_picks_in known (code.Read b ps) other = refl
no_picks_in known (code.Pick p) other = absurd (other p refl)
no_picks_in known (code.Operation op is ks) other = refl
no_picks_in known (code.Mux c a b) other = refl
no_picks_in known (code.Validif c a) other = refl

at_node : (nodes : List Node) (i : ℕ) (n : Node) → i < length nodes → n ≡ get_or nodes i n
    → picks_at (entries nodes) (Some i) ≡ picks_in (entry_of (entries (take i nodes)) n)
at_node nodes i n within is = ap picks_in (node_entry nodes i n within is)

-- the node of an index
pub index_is : (nodes : List Node) (i : ℕ) (p : Pick) (before : Option ℕ) → i < length nodes → code.Pick p ≡ get_or nodes i (code.Pick p)
    → before ≡ earlier i p.before
    → IsIndex nodes (Some i) (record { before = before; place = p.place; index = p.index; length = p.length; stride = p.stride })
index_is nodes i p before within is known = record {
  index = term_in (entry_at (entries (take i nodes)) p.index);
  is = at_node nodes i (code.Pick p) within is
      ∙ ap (λ ps. pick ps p.place (term_in (entry_at (entries (take i nodes)) p.index)) p.length p.stride)
      (front_picks nodes i p.before (omega arith) ∙ ap (picks_at (entries nodes)) (sym known));
  earlier = rw known (is_earlier i p.before);
}

-- another node
pub no_index : (nodes : List Node) (i : ℕ) (n : Node) → i < length nodes → n ≡ get_or nodes i n → ((p : Pick) → n ≡ code.Pick p → ⊥)
    → picks_at (entries nodes) (Some i) ≡ no_picks
no_index nodes i n within is other = at_node nodes i n within is ∙ no_picks_in (entries (take i nodes)) n other
