-- One more node leaves what the others stand for.
use Rattle.std.proofs.Common.{◌≡◌, ℕ, ◌<◌, ◌≤◌, List, [], ◌∷◌, ◌++◌, length, Option, Some, None, refl, sym, ap, ◌∙◌, arith, append_assoc, append-nil, length-append}
use Rattle.std.proofs.lemmas.List.{get_or_append_left}
use Rattle.std.proofs.Math.Seq.{get_or-append_seam}
use Rattle.fir_leaf.specs.declared.node.Node.{Node}
use Rattle.fir_meaning.specs.working.Terms as over
use Rattle.fir_leaf.specs.working.Nodes.{Entry, Grows, a_term, entries, entries_from, entry_at, entry_of, picks_at, picks_in}
use Rattle.fir_leaf_pairs.specs.working.TargetNames.{PicksWithin}

-- the nodes have grown, and the one at the place stands for this
pub record Stands (old new : List Node) (id : ℕ) (e : Entry) : Type 0 where
  pub grows : Grows old new
  pub within : id < length new
  pub entry : entry_at (entries new) id ≡ e

from_append : (known : List Entry) (xs zs : List Node) → entries_from known (xs ++ zs) ≡ entries_from (entries_from known xs) zs
unfolding entries_from
from_append known [] zs = refl
from_append known (x ∷ xs) zs = from_append (known ++ entry_of known x ∷ []) xs zs

entries_push : (ns : List Node) (n : Node) → entries (ns ++ n ∷ []) ≡ entries ns ++ entry_of (entries ns) n ∷ []
unfolding entries_from
entries_push ns n = from_append [] ns (n ∷ [])

from_known : (known : List Entry) (ns : List Node) → (more : List Entry) × (entries_from known ns ≡ known ++ more) × (length more ≡ length ns)
unfolding entries_from
from_known known [] = ([], sym (append-nil known), refl)
from_known known (n ∷ ns) =
    let r = from_known (known ++ entry_of known n ∷ []) ns in
    (entry_of known n ∷ r.0, r.1 ∙ append_assoc known (entry_of known n ∷ []) r.0, omega (arith, r.2))

length-entries : (ns : List Node) → length (entries ns) ≡ length ns
length-entries ns = let r = from_known [] ns in ap length r.1 ∙ r.2

pub grows_none : (ns : List Node) → Grows ns ns
grows_none ns = record { added = []; is = sym (append-nil ns) }

grows_one : (ns : List Node) (n : Node) → Grows ns (ns ++ n ∷ [])
grows_one ns n = record { added = n ∷ []; is = refl }

pub grows_on : (a b c : List Node) → Grows a b → Grows b c → Grows a c
grows_on a b c g h = record { added = g.added ++ h.added; is = h.is ∙ ap (λ l. l ++ h.added) g.is ∙ append_assoc a g.added h.added }

pub grows_length : (a b : List Node) → Grows a b → length a ≤ length b
grows_length a b g = omega (arith, ap length g.is, length-append a g.added)

-- a node stands for the same, whatever is behind it
pub keeps : (old new : List Node) (id : ℕ) → Grows old new → id < length old → entry_at (entries new) id ≡ entry_at (entries old) id
keeps old new id g lt =
    let r = from_known (entries old) g.added in
    let within : id < length (entries old) = omega (arith, length-entries old) in
    ap (λ l. entry_at (entries l) id) g.is ∙ ap (λ l. entry_at l id) (from_append [] old g.added ∙ r.1) ∙ get_or_append_left (entries old) r.0 (a_term over.zeros) id within

new_entry : (ns : List Node) (n : Node) → entry_at (entries (ns ++ n ∷ [])) (length ns) ≡ entry_of (entries ns) n
new_entry ns n =
    ap (λ l. entry_at l (length ns)) (entries_push ns n)
    ∙ ap (λ k. entry_at (entries ns ++ entry_of (entries ns) n ∷ []) k) (sym (length-entries ns))
    ∙ get_or-append_seam (entries ns) (entry_of (entries ns) n) [] (a_term over.zeros)

pub stands_new : (old new : List Node) (n : Node) (id : ℕ) → new ≡ old ++ n ∷ [] → id ≡ length old → Stands old new id (entry_of (entries old) n)
stands_new old new n id e i = rw (e, i) (record {
  grows = grows_one old n;
  within = omega (arith, length-append old (n ∷ []));
  entry = new_entry old n;
})

-- and so do the indices up to a node
pub picks_keep : (old new : List Node) (p : Option ℕ) → Grows old new → PicksWithin (length old) p → picks_at (entries new) p ≡ picks_at (entries old) p
picks_keep old new None g w = refl
picks_keep old new (Some i) g w = ap picks_in (keeps old new i g w)

pub picks_stay : (m n : ℕ) (p : Option ℕ) → m ≤ n → PicksWithin m p → PicksWithin n p
picks_stay m n None le w = tt
picks_stay m n (Some i) le w = omega arith
