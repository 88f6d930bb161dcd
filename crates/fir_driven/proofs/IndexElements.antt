-- The leaves behind indices, one index and one element after another.
use Rattle.std.proofs.Common.{◌≡◌, ℕ, ◌+◌, ◌<◌, suc, List, [], ◌∷◌, ◌++◌, get_or, length, take, Option, refl, sym, ap, ◌∙◌, append_assoc, append-nil}
use Rattle.std.proofs.lemmas.Grind.{flat_map-append}
use Rattle.std.proofs.lemmas.List.{take_more}
use Rattle.fir_leaf.specs.declared.node.Node.{Node}
use Rattle.fir_leaf.specs.declared.node.Pick.{Pick}
use Rattle.fir_leaf.specs.working.Nodes.{entries, picks_at}
use Rattle.fir_meaning.specs.working.TermReads.{multiples, reached}
use Rattle.fir_driven.specs.working.Indices.{IsIndex, elements_behind, leaves_behind}

-- the next element
pub next_element : (out : List ℕ) (b n each : ℕ) → out ++ multiples b (suc n) each ≡ (out ++ b ∷ []) ++ multiples (b + each) n each
unfolding multiples
next_element out b n each = sym (append_assoc out (b ∷ []) (multiples (b + each) n each))

pub no_element : (out : List ℕ) (b each : ℕ) → out ++ multiples b 0 each ≡ out
unfolding multiples
no_element out b each = append-nil out

-- the elements behind one more leaf
pub elements_more : (p : Pick) (firsts : List ℕ) (i d : ℕ) → i < length firsts
    → elements_behind p (take (i + 1) firsts) ≡ elements_behind p (take i firsts) ++ multiples (get_or firsts i d) p.length p.stride
elements_more p firsts i d within =
    ap (elements_behind p) (take_more firsts i d within)
    ∙ flat_map-append (λ first. multiples first p.length p.stride) (take i firsts) (get_or firsts i d ∷ [])
    ∙ ap (λ xs. elements_behind p (take i firsts) ++ xs) (append-nil (multiples (get_or firsts i d) p.length p.stride))

-- one more index
pub behind_index : (ps : List Pick) (p : Pick) (xs : List ℕ) → leaves_behind (ps ++ p ∷ []) xs ≡ leaves_behind ps (elements_behind p xs)
behind_index [] p xs = refl
behind_index (q ∷ ps) p xs = ap (elements_behind q) (behind_index ps p xs)

pub reached_behind : (nodes : List Node) (first : ℕ) (picks : Option ℕ) (p : Pick) → IsIndex nodes picks p
    → reached first (picks_at (entries nodes) picks) ≡ elements_behind p (reached first (picks_at (entries nodes) p.before))
reached_behind nodes first picks p is = ap (reached first) is.is
