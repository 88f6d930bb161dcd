-- Values at other widths: they stand, and hold the number at that width.
use Rattle.std.proofs.Common.{◌≡◌, ℕ, ◌%◌, ◌^◌, ◌<◌, ◌≤◌, min, List, Bool, refl, sym, ap, ◌∙◌, subst, ⊎_elim, arith}
use Rattle.std.proofs.Math.Nat.{mod-eq_of_lt, min-eq_left, min-eq_right}
use Rattle.std.proofs.lemmas.Bool.{cases_lt, lt-leb}
use Rattle.std.proofs.lemmas.Nat.{pow_pos, mod_below}
use Rattle.fir_base.specs.Ticks.{Env}
use Rattle.fir_bits.specs.Values.{BitVector, IsBitVector, extended, fitted}
use Rattle.fir_bits.specs.Operators.{no_operand}
use Rattle.fir_bits.specs.declared.values.Num.{Num}
use Rattle.fir_net.specs.working.Values.{number_of, at_width}
use Rattle.ver_ast.specs.Nets.{SizedNet, width_among}
use Rattle.ver_build.specs.declared.held.Part.{Part}
use Rattle.ver_build.specs.declared.held.Source.{Source}
use Rattle.ver_build.specs.declared.held.Source.TheVariants as source
use Rattle.ver_build.specs.declared.held.Held.{Held}
use Rattle.ver_build.specs.working.Held.{no_bits, whole_net, empty, cut, fit_number, fit_source, fit, source_number, held_number}
use Rattle.ver_build.proofs.Choices.{if_equal}
use Rattle.ver_build.proofs.Fields.{low_low}
use Rattle.ver_build.proofs.SignedNumbers.{fitted-wider, fitted-own, fitted-below, fitted-extended}
use Rattle.ver_build.proofs.Standing.{IsPart, IsNumber, IsSource, Stands, FitsSource, Holds}

-- each net is 0, a value of any width
abbrev pub zero_env : Env
zero_env = λ n. 0

pub zero_fits : (s : Source) → FitsSource zero_env s
zero_fits (source.Number v) = tt
zero_fits (source.Net p) = pow_pos p.own

abbrev value_of : Bool → ℕ → ℕ → Num
value_of signed w n = record { signed = signed; value = record { width = w; number = n } }

-- what a value holds there
abbrev pub held_as : Env → Held → Num
held_as env h = value_of h.signed h.width (held_number env h)

-- the low bits of a net at a width
cut_number : (signed : Bool) (k n w : ℕ) → extended signed (min k w) (n % 2 ^ min k w) w ≡ fitted signed k (n % 2 ^ k) w
cut_number signed k n w =
    ⊎_elim
    (λ (h : w < k).
    let least : min k w ≡ w = min-eq_right (omega arith) in
    let test = lt-leb k w h in
    ap (λ (x : ℕ). extended signed x (n % 2 ^ x) w) least ∙ sym (fitted-wider signed w (n % 2 ^ w) w (omega arith)) ∙ fitted-own signed w (n % 2 ^ w)
    ∙ rw test (sym (low_low n k w (omega arith))))
    (λ (h : k ≤ w).
    let least : min k w ≡ k = min-eq_left (omega arith) in
    ap (λ (x : ℕ). extended signed x (n % 2 ^ x) w) least ∙ sym (fitted-wider signed k (n % 2 ^ k) w h))
    (cases_lt w k)

module _ (nets : List SizedNet) where
  pub none_stands : Stands nets no_bits
  none_stands = record { narrow = omega arith; source = record { wide = refl; below = omega arith } }

  pub whole_stands : (name : List ℕ) (signed : Bool) (w : ℕ) → 1 ≤ w → w ≤ 128 → width_among nets name ≡ w → Stands nets (whole_net name signed w)
  whole_stands name signed w some narrow declared =
      record { narrow = narrow; source = record { some = some; within = omega arith; below = omega arith; declared = declared } }

  number_fits : (signed : Bool) (u w : ℕ) (v : BitVector) → IsNumber u v → w ≤ 128 → IsNumber w (fit_number signed w v)
  number_fits signed u w v is narrow =
      let least : min w 128 ≡ w = min-eq_left narrow in
      rw least (record { wide = refl; below = fitted-below signed v.width v.number w (subst (λ (x : ℕ). v.number < 2 ^ x) (sym is.wide) is.below) })

  part_fits : (u w : ℕ) (p : Part) → IsPart nets u p → 1 ≤ w → IsPart nets w (cut w p)
  part_fits u w p is some = record {
    some = let k = is.some in omega arith;
    within = let k = is.within in omega arith;
    below = omega arith;
    declared = is.declared;
  }

  source_fits : (signed : Bool) (u w : ℕ) (s : Source) → IsSource nets u s → w ≤ 128 → IsSource nets w (fit_source signed w s)
  source_fits signed u w (source.Number v) is narrow = number_fits signed u w v is narrow
  source_fits signed u w (source.Net p) is narrow =
      if_equal (IsSource nets w) w 0 (source.Number empty) (source.Net (cut w p)) (λ e. record { wide = sym e; below = pow_pos w })
      (λ f. part_fits u w p is (omega arith))

  pub fit_stands : (w : ℕ) (h : Held) → Stands nets h → w ≤ 128 → Stands nets (fit w h)
  fit_stands w h is narrow = record { narrow = narrow; source = source_fits h.signed h.width w h.source is.source narrow }

  module _ (env : Env) where
    kept_below : (n k : ℕ) → n % 2 ^ k < 2 ^ k
    kept_below n k = mod_below n (2 ^ k) (pow_pos k)

    source_below : (signed : Bool) (u : ℕ) (s : Source) → IsSource nets u s → source_number env signed u s < 2 ^ u
    source_below signed u (source.Number v) is = is.below
    source_below signed u (source.Net p) is =
        subst (λ (x : ℕ). x < 2 ^ u) (fitted-wider signed p.kept (env p.name % 2 ^ p.kept) u is.below)
        (fitted-below signed p.kept (env p.name % 2 ^ p.kept) u (kept_below (env p.name) p.kept))

    pub held_below : (h : Held) → Stands nets h → held_number env h < 2 ^ h.width
    held_below h is = source_below h.signed h.width h.source is.source

    source_number-fit : (signed : Bool) (u w : ℕ) (s : Source) → IsSource nets u s → w ≤ 128
        → source_number env signed w (fit_source signed w s) ≡ fitted signed u (source_number env signed u s) w
    source_number-fit signed u w (source.Number v) is narrow =
        let least : min w 128 ≡ w = min-eq_left narrow in
        ap (fitted signed v.width v.number) least ∙ ap (λ (x : ℕ). fitted signed x v.number w) is.wide
    source_number-fit signed u w (source.Net p) is narrow =
        let x = env p.name % 2 ^ p.kept in
        let whole = fitted-extended signed p.kept x u w (kept_below (env p.name) p.kept) is.below in
        if_equal (λ s. source_number env signed w s ≡ fitted signed u (extended signed p.kept x u) w) w 0 (source.Number empty) (source.Net (cut w p))
        (λ e. nothing w e (fitted signed u (extended signed p.kept x u) w)
        (rw whole (fitted-below signed p.kept x w (kept_below (env p.name) p.kept))))
        (λ f. cut_number signed p.kept (env p.name) w ∙ sym whole)
      where
        nothing : (w : ℕ) → w ≡ 0 → (n : ℕ) → n < 2 ^ w → 0 ≡ n
        nothing w e n below = let one : 2 ^ w ≡ 1 = ap (λ (x : ℕ). 2 ^ x) e in omega arith

    -- a value at a width has its number at that width
    pub number-fit : (w : ℕ) (h : Held) → Stands nets h → w ≤ 128 → held_number env (fit w h) ≡ fitted h.signed h.width (held_number env h) w
    number-fit w h is narrow = source_number-fit h.signed h.width w h.source is.source narrow

    source_stays : (signed : Bool) (w : ℕ) (s : Source) → FitsSource env s → FitsSource env (fit_source signed w s)
    source_stays signed w (source.Number v) fits = tt
    source_stays signed w (source.Net p) fits =
        if_equal (FitsSource env) w 0 (source.Number empty) (source.Net (cut w p)) (λ e. tt) (λ f. fits)

    pub holds_vector : (h : Held) (v : Num) → Holds nets env h v → IsBitVector v.value
    holds_vector h v is =
        let same = is.standing.width in
        let below = held_below h is.standing.stands in
        record {
          narrow = rw (← same) is.standing.stands.narrow;
          below = rw (← same, ← is.number) below;
        }

    pub fit_holds : (w : ℕ) (h : Held) (v : Num) → Holds nets env h v → w ≤ 128
        → Holds nets env (fit w h) (number_of (record { signed = v.signed; width = w }) (at_width v w))
    fit_holds w h v is narrow = record {
      standing = record { stands = fit_stands w h is.standing.stands narrow; signed = is.standing.signed; width = refl };
      below = source_stays h.signed w h.source is.below;
      number =
          number-fit w h is.standing.stands narrow ∙ ap (λ (s : Bool). fitted s h.width (held_number env h) w) is.standing.signed
          ∙ ap (λ (u : ℕ). fitted v.signed u (held_number env h) w) is.standing.width
          ∙ ap (λ (n : ℕ). fitted v.signed v.value.width n w) is.number;
    }

    -- a net holds its own value
    pub whole_holds : (name : List ℕ) (signed : Bool) (w : ℕ) → 1 ≤ w → w ≤ 128 → width_among nets name ≡ w → env name < 2 ^ w
        → Holds nets env (whole_net name signed w) (number_of (record { signed = signed; width = w }) (env name))
    whole_holds name signed w some narrow declared below = record {
      standing = record { stands = whole_stands name signed w some narrow declared; signed = refl; width = refl };
      below = below;
      number = sym (fitted-wider signed w (env name % 2 ^ w) w (omega arith)) ∙ fitted-own signed w (env name % 2 ^ w) ∙ mod-eq_of_lt below;
    }

    pub none_holds : Holds nets env no_bits no_operand
    none_holds = record { standing = record { stands = none_stands; signed = refl; width = refl }; below = tt; number = refl }

    pub holds_itself : (h : Held) → Stands nets h → FitsSource env h.source → Holds nets env h (held_as env h)
    holds_itself h is fits = record { standing = record { stands = is; signed = refl; width = refl }; below = fits; number = refl }

    -- and no other
    pub held_is : (h : Held) (v : Num) → Holds nets env h v → v ≡ held_as env h
    held_is h v is =
        ap (λ (s : Bool). value_of s v.value.width v.value.number) (sym is.standing.signed)
        ∙ ap (λ (w : ℕ). value_of h.signed w v.value.number) (sym is.standing.width)
        ∙ ap (value_of h.signed h.width) (sym is.number)
