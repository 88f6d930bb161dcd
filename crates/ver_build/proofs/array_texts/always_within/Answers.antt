use Rattle.std.proofs.Common.{◌≡◌, ℕ, ◌<◌, ◌≤◌, ◌^◌, sym, ◌∙◌, ⊎_elim, subst, arith}
use Rattle.std.proofs.lemmas.Bool.{le-ltb, lt-leb}
use Rattle.std.proofs.lemmas.Nat.{pow_below}
use Rattle.std.proofs.Math.Nat.{eq-or-lt_of_le}
use Rattle.ver_build.proofs.array_texts.always_within.Goals as goal

-- so many bits have more numbers than there are words
large : (w n : ℕ) → 64 ≤ w → n < 2 ^ 64 → n < 2 ^ w
large w n wide few =
    ⊎_elim (λ (e : 64 ≡ w). subst (λ (x : ℕ). n < 2 ^ x) e few) (λ (l : 64 < w). let more = pow_below 64 w l in omega (arith, few, more)) (eq-or-lt_of_le wide)

pub returns-else-width-lt64 : goal.returns-else-width-lt64
returns-else-width-lt64 c =
    let few : c.args.words < 2 ^ 64 = omega (arith, c.ranges.words.fits) in
    le-ltb c.args.width 64 c.if-width-lt64.false
    ∙ sym (lt-leb (2 ^ c.args.width) c.args.words (large c.args.width c.args.words c.if-width-lt64.false few))
