-- The widths of a list of nets, each from 1 to 128.
use Rattle.std.proofs.Common.{ℕ, ◌≤◌, List, [], ◌∷◌, true, false, if◌then◌else◌, inl, inr, refl, arith}
use Rattle.std.specs.Str.{bytes_eq}
use Rattle.fir_base.specs.Lists.{In}
use Rattle.ver_ast.specs.Nets.{SizedNet, width_among}

-- in the form of a valid tree's promise
abbrev pub AllNarrow : List SizedNet → Type 0
AllNarrow nets = (n : List ℕ) (w : ℕ) → In nets (n, w) → (1 ≤ w) × (w ≤ 128)

-- the first net
pub narrow_first : (n : List ℕ) (w : ℕ) (nets : List SizedNet) → AllNarrow ((n, w) ∷ nets) → (1 ≤ w) × (w ≤ 128)
narrow_first n w nets h = h n w (inl refl)

-- the nets behind the first
pub narrow_others : (x : SizedNet) (nets : List SizedNet) → AllNarrow (x ∷ nets) → AllNarrow nets
narrow_others x nets h n w i = h n w (inr i)

-- the width of a net, or 0
pub width_is_narrow : (nets : List SizedNet) (n : List ℕ) → AllNarrow nets → width_among nets n ≤ 128
width_is_narrow [] n h = omega arith
width_is_narrow ((m, w) ∷ rest) n h = elim (bytes_eq m n) as (λ same. (if same then w else width_among rest n) ≤ 128) [
  | true ↦ (narrow_first m w rest h).1
  | false ↦ width_is_narrow rest n (narrow_others (m, w) rest h)
]
