-- Operands fit their widths.
-- A net's width is the one with which it is declared, and what fits its parts' widths side by side fits their sum.
use Rattle.std.proofs.Common.{◌≡◌, ℕ, zero, suc, ◌+◌, ◌*◌, ◌^◌, ◌<◌, List, [], ◌∷◌, ◌++◌, refl, sym, ap, inl, inr, subst, arith}
use Rattle.std.specs.Str.{bytes_eq}
use Rattle.std.proofs.lemmas.Bool.{cond_both}
use Rattle.std.proofs.lemmas.Nat.{pow_pos, mod_below}
use Rattle.std.proofs.lemmas.Slice.Eq.{bytes_eq-Decides}
use Rattle.fir_bits.proofs.Below.{joined_below}
use Rattle.fir_base.specs.Lists.{In, Distinct}
use Rattle.fir_base.specs.Ticks.{Env}
use Rattle.fir_base.proofs.Members.{in_map, in_left, in_right}
use Rattle.ver_ast.specs.Atoms.{AtomTree, net, constant, bit_select, part_select, concat, repeat, AtomTrees, no_atoms, atom_before}
use Rattle.ver_ast.specs.Nets.{SizedNet, width_among, names_of}
use Rattle.ver_ast.specs.AtomWidths.{atom_width, joined_width}
use Rattle.ver_ast.specs.AtomValues.{copies, atom_value, joined_value}
use Rattle.ver_ast.specs.SoundSides.{IsSound, AreSound}
use Rattle.ver_ast.specs.Names.{atom_names, joined_names}

-- the width of a net that is declared once
pub declared_width : (ns : List SizedNet) → Distinct (names_of ns) → (n : List ℕ) (w : ℕ) → In ns (n, w) → width_among ns n ≡ w
declared_width [] d n w m = absurd m
declared_width (p ∷ ps) d n w (inl e) =
    let same : p.0 ≡ n = ap (λ (q : SizedNet). q.0) e in
    rw ((bytes_eq-Decides p.0 n).1 same) (ap (λ (q : SizedNet). q.1) e)
declared_width (p ∷ ps) d n w (inr m) =
    cond_both (bytes_eq p.0 n) p.1 (width_among ps n) (λ (x : ℕ). x ≡ w)
    (λ t. absurd (d.0 (subst (In (names_of ps)) (sym ((bytes_eq-Decides p.0 n).0 t)) (in_map (λ (q : SizedNet). q.0) ps (n, w) m))))
    (λ _. declared_width ps d.1 n w m)

-- each of the names has a value of its width
pub record FitNames (ns : List SizedNet) (env : Env) (names : List (List ℕ)) : Type 0 where
  pub each : (n : List ℕ) → In names n → env n < 2 ^ width_among ns n

pub fit_left : (ns : List SizedNet) (env : Env) (front back : List (List ℕ)) → FitNames ns env (front ++ back) → FitNames ns env front
fit_left ns env front back h = record { each = λ n m. h.each n (in_left front back n m) }

pub fit_right : (ns : List SizedNet) (env : Env) (front back : List (List ℕ)) → FitNames ns env (front ++ back) → FitNames ns env back
fit_right ns env front back h = record { each = λ n m. h.each n (in_right front back n m) }

copies_fit : (n w a : ℕ) → a < 2 ^ w → copies n w a < 2 ^ (n * w)
copies_fit zero w a h = pow_pos _
copies_fit (suc n) w a h =
    let sum : w + n * w ≡ suc n * w = omega arith in
    subst (λ (k : ℕ). copies (suc n) w a < 2 ^ k) sum (joined_below a (copies n w a) w (n * w) h (copies_fit n w a h))

mutual
  -- a sound operand has a value of its width
  pub atom_fits : (ns : List SizedNet) (env : Env) (a : AtomTree) → IsSound ns a → FitNames ns env (atom_names a)
      → atom_value ns env a < 2 ^ atom_width ns a
  atom_fits ns env (net n) s h = h.each n (inl refl)
  atom_fits ns env (constant width value) s h = s.2
  atom_fits ns env (bit_select n i) s h = mod_below _ 2 (omega arith)
  atom_fits ns env (part_select n hi lo) s h = mod_below _ _ (pow_pos _)
  atom_fits ns env (concat a more) s h =
      joined_below (atom_value ns env a) (joined_value ns env more) (atom_width ns a) (joined_width ns more)
      (atom_fits ns env a s.0 (fit_left ns env (atom_names a) (joined_names more) h))
      (joined_fits ns env more s.1 (fit_right ns env (atom_names a) (joined_names more) h))
  atom_fits ns env (repeat count a) s h = copies_fit count (atom_width ns a) (atom_value ns env a) (atom_fits ns env a s.0 h)

  joined_fits : (ns : List SizedNet) (env : Env) (more : AtomTrees) → AreSound ns more → FitNames ns env (joined_names more)
      → joined_value ns env more < 2 ^ joined_width ns more
  joined_fits ns env no_atoms s h = omega arith
  joined_fits ns env (atom_before a more) s h =
      joined_below (atom_value ns env a) (joined_value ns env more) (atom_width ns a) (joined_width ns more)
      (atom_fits ns env a s.0 (fit_left ns env (atom_names a) (joined_names more) h))
      (joined_fits ns env more s.1 (fit_right ns env (atom_names a) (joined_names more) h))
