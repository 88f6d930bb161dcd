-- The nets of a tree whose names are declared once, with widths that they can have.
use Rattle.std.proofs.Common.{◌≡◌, ℕ, ◌≤◌, List, [], ◌∷◌, true, false, refl, sym, ap, ◌∙◌, inl, inr, ⊎_elim, subst, arith}
use Rattle.std.specs.Prelude.{Some}
use Rattle.std.specs.Str.{bytes_eq}
use Rattle.fir_base.specs.Lists.{In}
use Rattle.fir_base.proofs.SameNames.{name_is, name_same}
use Rattle.fir_base.proofs.Tests.{chosen as which}
use Rattle.ver_ast.specs.declared.tree.Verilog.{Verilog}
use Rattle.ver_ast.specs.Nets.{SizedNet, nets, width_among}
use Rattle.ver_valid.specs.declared.declared.Declared.{Declared}
use Rattle.ver_valid.specs.declared.declared.Declared.TheVariants.{Input, Output, Wire, Register}
use Rattle.ver_valid.specs.working.Declarations.{entries, IsNarrow, IsNarrowKind}
use Rattle.ver_valid.specs.working.Kinds.{net_width}
use Rattle.ver_valid.specs.working.Scopes.{IsFine}
use Rattle.ver_valid.proofs.Entries.{nets_are}
use Rattle.ver_valid.proofs.EntryKinds.{sized_kind, kind_in}

narrow_width : (d : Declared) (w : ℕ) → net_width d ≡ Some w → IsNarrowKind d → IsNarrow w
narrow_width (Input x) w e h = let same : x ≡ w = cc in subst IsNarrow same h
narrow_width (Output x) w e h = let same : x ≡ w = cc in subst IsNarrow same h
narrow_width (Wire x) w e h = let same : x ≡ w = cc in subst IsNarrow same h
narrow_width (Register x) w e h = let same : x ≡ w = cc in subst IsNarrow same h
narrow_width _ w e h = absurd (cc)

-- a width that is not 0 is that of a net
pub width_of_net : (ns : List SizedNet) (n : List ℕ) → 1 ≤ width_among ns n → In ns (n, width_among ns n)
width_of_net [] n h = absurd (omega arith)
width_of_net (p ∷ ns) n h =
    ⊎_elim
    (λ (c : (bytes_eq p.0 n ≡ true) × (p.1 ≡ width_among (p ∷ ns) n)).
    inl (ap (λ (x : List ℕ). (x, p.1)) (name_is p.0 n c.0) ∙ ap (λ (x : ℕ). (n, x)) c.1))
    (λ (c : (bytes_eq p.0 n ≡ false) × (width_among ns n ≡ width_among (p ∷ ns) n)).
    let more : 1 ≤ width_among ns n = subst (λ (x : ℕ). 1 ≤ x) (sym c.1) h in
    inr (subst (λ (x : ℕ). In ns (n, x)) c.1 (width_of_net ns n more)))
    (which (bytes_eq p.0 n) p.1 (width_among ns n) (width_among (p ∷ ns) n) refl)

-- where all nets are narrow, that of a net is not 0
wide_net : (ns : List SizedNet) → ((m : List ℕ) (u : ℕ) → In ns (m, u) → 1 ≤ u) → (n : List ℕ) (w : ℕ) → In ns (n, w) → 1 ≤ width_among ns n
wide_net [] all n w m = absurd m
wide_net (p ∷ ns) all n w (inl e) =
    let name : p.0 ≡ n = ap (λ (x : SizedNet). x.0) e in
    let same : bytes_eq p.0 n ≡ true = ap (bytes_eq p.0) (sym name) ∙ name_same p.0 in
    rw same (all p.0 p.1 (inl refl))
wide_net (p ∷ ns) all n w (inr m) =
    ⊎_elim
    (λ (c : (bytes_eq p.0 n ≡ true) × (p.1 ≡ width_among (p ∷ ns) n)). subst (λ (x : ℕ). 1 ≤ x) c.1 (all p.0 p.1 (inl refl)))
    (λ (c : (bytes_eq p.0 n ≡ false) × (width_among ns n ≡ width_among (p ∷ ns) n)).
    subst (λ (x : ℕ). 1 ≤ x) c.1 (wide_net ns (λ k u i. all k u (inr i)) n w m))
    (which (bytes_eq p.0 n) p.1 (width_among ns n) (width_among (p ∷ ns) n) refl)

module _ (v : Verilog) (t : IsFine v) where
  pub fine_narrow : (n : List ℕ) (w : ℕ) → In (nets v) (n, w) → IsNarrow w
  fine_narrow n w m =
      let r = sized_kind net_width (entries v) t.once n w (subst (λ (xs : List SizedNet). In xs (n, w)) (nets_are v) m) in
      narrow_width r.0 w r.2 (t.narrow (n, r.0) (kind_in (entries v) n r.0 r.1))

  one_net : (n : List ℕ) (w u : ℕ) → In (nets v) (n, w) → In (nets v) (n, u) → u ≡ w
  one_net n w u i j =
      let r = sized_kind net_width (entries v) t.once n w (subst (λ (xs : List SizedNet). In xs (n, w)) (nets_are v) i) in
      let s = sized_kind net_width (entries v) t.once n u (subst (λ (xs : List SizedNet). In xs (n, u)) (nets_are v) j) in
      let same : r.0 ≡ s.0 = let a = r.1 in let b = s.1 in cc in
      let widths = ap net_width same in
      let a = r.2 in let b = s.2 in cc

  pub fine_width : (n : List ℕ) (w : ℕ) → In (nets v) (n, w) → width_among (nets v) n ≡ w
  fine_width n w m =
      one_net n w (width_among (nets v) n) m
      (width_of_net (nets v) n (wide_net (nets v) (λ k u i. (fine_narrow k u i).0) n w m))
