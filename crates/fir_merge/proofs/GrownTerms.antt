-- What the nodes of a net stand for while nodes are added.
use Rattle.std.proofs.Common.{◌≡◌, ℕ, zero, suc, ◌+◌, ◌<◌, List, [], ◌∷◌, ◌++◌, length, Some, refl, sym, ap, ◌∙◌, arith, append_assoc, append-nil, length-append, ⊎_elim, subst}
use Rattle.std.specs.Prelude.{slice_get, IfOk, OnErr, Result, Ok, Err}
use Rattle.std.proofs.lemmas.List.{get_or_append_left, get_or_at}
use Rattle.std.proofs.lemmas.Option.{slice_get_within}
use Rattle.fir_bits.specs.Forms.{no_type}
use Rattle.fir_net.specs.declared.node.Node.{Node}
use Rattle.fir_net.specs.declared.node.Node.TheVariants as node
use Rattle.fir_net.specs.declared.reads.Read.{Read}
use Rattle.fir_net.specs.declared.reads.Read.TheVariants as read
use Rattle.fir_net.specs.working.Dependence.{support_of}
use Rattle.fir_net.specs.working.Shares.{Shares}
use Rattle.fir_connect.specs.working.Lowered.{zero_of}
use Rattle.fir_connect.specs.working.NetTerms.{NetTerm, operation}
use Rattle.fir_merge.specs.working.NodeTerms.{AreBelow, Grows, IsBelow, ReadBefore, Stands, chosen_term, node_term, read_term, read_terms, terms, terms_from}

-- more terms leave the first so many as they are
pub record Keeps (count : ℕ) (known more : List NetTerm) : Type 0 where
  pub each : (k : ℕ) → k < count → read_term more (read.Node k) ≡ read_term known (read.Node k)

from_append : (known : List NetTerm) (xs zs : List Node) → terms_from known (xs ++ zs) ≡ terms_from (terms_from known xs) zs
unfolding terms_from
from_append known [] zs = refl
from_append known (x ∷ xs) zs = from_append (known ++ node_term known x ∷ []) xs zs

from_known : (known : List NetTerm) (ns : List Node) → (more : List NetTerm) × (terms_from known ns ≡ known ++ more) × (length more ≡ length ns)
unfolding terms_from
from_known known [] = ([], sym (append-nil known), refl)
from_known known (n ∷ ns) =
    let r = from_known (known ++ node_term known n ∷ []) ns in
    (node_term known n ∷ r.0, r.1 ∙ append_assoc known (node_term known n ∷ []) r.0, omega (arith, r.2))

pub length-terms : (ns : List Node) → length (terms ns) ≡ length ns
length-terms ns = let r = from_known [] ns in ap length r.1 ∙ r.2

from_keeps : (known : List NetTerm) (ns : List Node) → Keeps (length known) known (terms_from known ns)
from_keeps known ns =
    let r = from_known known ns in
    record { each = λ k lt. ap (λ l. read_term l (read.Node k)) r.1 ∙ get_or_append_left known r.0 (zero_of no_type) k lt }

-- the terms of a net stay where nodes are added
pub grown_keeps : (old new : List Node) → Grows old new → Keeps (length old) (terms old) (terms new)
grown_keeps old new g =
    let is : terms new ≡ terms_from (terms old) g.added = ap terms g.is ∙ from_append [] old g.added in
    let k = from_keeps (terms old) g.added in
    record { each = λ i lt. ap (λ l. read_term l (read.Node i)) is ∙ k.each i (omega (arith, length-terms old)) }

-- what is read of kept terms stays
pub same_read : (count : ℕ) (known more : List NetTerm) (r : Read) → Keeps count known more → IsBelow count r → read_term more r ≡ read_term known r
same_read count known more (read.Leaf x) h b = refl
same_read count known more (read.Node k) h b = h.each k b

same_reads : (count : ℕ) (known more : List NetTerm) (rs : List Read) → Keeps count known more → AreBelow count rs → read_terms more rs ≡ read_terms known rs
same_reads count known more [] h b = refl
same_reads count known more (r ∷ rs) h b = rw (same_read count known more r h b.0, same_reads count known more rs h b.1) refl

same_choice : (count : ℕ) (known more : List NetTerm) (rs : List Read) (signed : _) (width : ℕ) → Keeps count known more → AreBelow count rs
    → chosen_term more rs signed width ≡ chosen_term known rs signed width
same_choice count known more [] signed width h b = refl
same_choice count known more (c ∷ []) signed width h b = refl
same_choice count known more (c ∷ a ∷ []) signed width h b = refl
same_choice count known more (c ∷ a ∷ d ∷ []) signed width h b =
    rw (same_read count known more c h b.0, same_read count known more a h b.1.0, same_read count known more d h b.1.1.0) refl
same_choice count known more (c ∷ a ∷ d ∷ e ∷ rs) signed width h b = refl

pub same_node : (count : ℕ) (known more : List NetTerm) (n : Node) → Keeps count known more → AreBelow count (support_of n)
    → node_term more n ≡ node_term known n
same_node count known more (node.Literal v) h b = refl
same_node count known more (node.Operation o) h b =
    ap (λ ts. operation o.op ts o.integers (record { signed = o.signed; width = o.width })) (same_reads count known more o.reads h b)
same_node count known more (node.Mux m) h b = same_choice count known more m.reads m.signed m.width h b

-- a node that is there stands for what it makes of all terms
there_from : (known : List NetTerm) (ns : List Node) (k : ℕ) (n : Node) → ReadBefore (length known) ns → slice_get ns k ≡ Some n
    → read_term (terms_from known ns) (read.Node (length known + k)) ≡ node_term (terms_from known ns) n
unfolding terms_from
there_from known [] k n h e = cc
there_from known (m ∷ ns) zero n h e =
    let same : m ≡ n = cc in
    let here = node_term known m in
    let more = known ++ here ∷ [] in
    let long : length more ≡ length known + 1 = length-append known (here ∷ []) in
    let all = from_keeps more ns in
    let first = from_keeps known (m ∷ ns) in
    let at : length known + 0 ≡ length known = omega arith in
    rw at (all.each (length known) (omega arith) ∙ get_or_at known here [] (zero_of no_type) (length known) refl
    ∙ sym (same_node (length known) known (terms_from more ns) m first h.0) ∙ ap (node_term (terms_from more ns)) same)
there_from known (m ∷ ns) (suc k) n h e =
    let more = known ++ node_term known m ∷ [] in
    let long : length more ≡ suc (length known) = omega (arith, length-append known (node_term known m ∷ [])) in
    let at : length known + suc k ≡ length more + k = omega arith in
    rw at (there_from more ns k n (subst (λ (j : ℕ). ReadBefore j ns) (sym long) h.1) e)

pub node_there : (ns : List Node) (k : ℕ) (n : Node) → ReadBefore 0 ns → slice_get ns k ≡ Some n → read_term (terms ns) (read.Node k) ≡ node_term (terms ns) n
node_there ns k n h e =
    subst (λ (j : ℕ). read_term (terms ns) (read.Node j) ≡ node_term (terms ns) n) (omega arith) (there_from [] ns k n h e)

-- one more node that reads nodes before it
before_push : (count : ℕ) (ns : List Node) (n : Node) → ReadBefore count ns → AreBelow (count + length ns) (support_of n) → ReadBefore count (ns ++ n ∷ [])
before_push count [] n h b = (subst (λ (j : ℕ). AreBelow j (support_of n)) (omega arith) b, tt)
before_push count (m ∷ ns) n h b = (h.0, before_push (suc count) ns n h.1 (subst (λ (j : ℕ). AreBelow j (support_of n)) (omega arith) b))

pub grows_none : (ns : List Node) → Grows ns ns
grows_none ns = record { added = []; is = sym (append-nil ns) }

pub grows_more : (a b c : List Node) → Grows a b → Grows b c → Grows a c
grows_more a b c g h = record { added = g.added ++ h.added; is = h.is ∙ ap (λ (l : List Node). l ++ h.added) g.is ∙ append_assoc a g.added h.added }

-- what a shared node leaves
pub record Kept (old new : List Node) : Type 0 where
  pub grows : Grows old new
  pub before : ReadBefore 0 new

pub shared_kept : (old new : List Node) (n : Node) (k : ℕ) → ReadBefore 0 old → AreBelow (length old) (support_of n) → Shares old new n k → Kept old new
shared_kept old new n k h b s =
    ⊎_elim
    (λ (e : new ≡ old). rw e (record { grows = grows_none old; before = h }))
    (λ (e : new ≡ old ++ n ∷ []). rw e (record { grows = record { added = n ∷ []; is = refl }; before = before_push 0 old n h (subst (λ (j : ℕ). AreBelow j (support_of n)) (omega arith) b) }))
    s.keeps

pub shared_stands : (old new : List Node) (n : Node) (k : ℕ) → ReadBefore 0 old → AreBelow (length old) (support_of n) → Shares old new n k → Stands old new n k
shared_stands old new n k h b s =
    let kept = shared_kept old new n k h b s in
    record {
      grows = kept.grows;
      within = slice_get_within new k n s.stands;
      term = node_there new k n kept.before s.stands ∙ same_node (length old) (terms old) (terms new) n (grown_keeps old new kept.grows) b;
    }

-- the same of either end of the call
pub before_after : {E : Type 0} (old new : List Node) (n : Node) (r : Result ℕ E) → ReadBefore 0 old → AreBelow (length old) (support_of n)
    → IfOk r (λ k. Shares old new n k) → OnErr r (new ≡ old) → ReadBefore 0 new
before_after old new n (Ok k) h b ok err = (shared_kept old new n k h b ok).before
before_after old new n (Err e) h b ok err = rw err h

pub stands_after : {E : Type 0} (old new : List Node) (n : Node) (r : Result ℕ E) → ReadBefore 0 old → AreBelow (length old) (support_of n)
    → IfOk r (λ k. Shares old new n k) → IfOk r (Stands old new n)
stands_after old new n (Ok k) h b ok = shared_stands old new n k h b ok
stands_after old new n (Err e) h b ok = tt

-- what is below stays below
pub below_later : (old new : List Node) (r : Read) → Grows old new → IsBelow (length old) r → IsBelow (length new) r
below_later old new (read.Leaf x) g b = tt
below_later old new (read.Node k) g b = let long : length new ≡ length old + length g.added = ap length g.is ∙ length-append old g.added in omega arith
