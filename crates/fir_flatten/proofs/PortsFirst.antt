-- Where the first leaves are ports and no other one is, the ports stand first.
use Rattle.std.proofs.Common.{◌≡◌, ℕ, zero, suc, ◌<◌, ◌≤◌, List, [], ◌∷◌, Bool, true, false, MatchBool, refl, sym, subst, arith}
use Rattle.std.specs.Prelude.{slice_get, Some}
use Rattle.fir_net.specs.declared.leaf.Leaf.{Leaf}
use Rattle.fir_net.specs.working.IsNet.{AreInside, ArePortsFirst, is_port}

all_inside : (ls : List Leaf) → ((x : ℕ) (l : Leaf) → slice_get ls x ≡ Some l → is_port l.role ≡ false) → AreInside ls
all_inside [] inner = tt
all_inside (l ∷ ls) inner = (inner 0 l refl, all_inside ls (λ x k at. inner (suc x) k at))

pub ports_first : (ports : ℕ) (ls : List Leaf) → ((x : ℕ) (l : Leaf) → slice_get ls x ≡ Some l → x < ports → is_port l.role ≡ true)
    → ((x : ℕ) (l : Leaf) → slice_get ls x ≡ Some l → ports ≤ x → is_port l.role ≡ false) → ArePortsFirst ls
ports_first ports [] outer inner = tt
ports_first zero (l ∷ ls) outer inner =
    subst (λ (b : Bool). MatchBool b (ArePortsFirst ls) (AreInside ls)) (sym (inner 0 l refl (omega arith)))
    (all_inside ls (λ x k at. inner (suc x) k at (omega arith)))
ports_first (suc ports) (l ∷ ls) outer inner =
    subst (λ (b : Bool). MatchBool b (ArePortsFirst ls) (AreInside ls)) (sym (outer 0 l refl (omega arith)))
    (ports_first ports ls (λ x k at lt. outer (suc x) k at (omega (arith, lt))) (λ x k at le. inner (suc x) k at (omega (arith, le))))
