-- What values are as operands: sound, of a width, and of the value that is held.
-- Parts side by side have the first one's bits above, and what stands above the bits of a net is copies of the sign, or zeros.
use Rattle.std.proofs.Common.{◌≡◌, ℕ, ◌+◌, ◌-◌, ◌*◌, ◌/◌, ◌%◌, ◌^◌, ◌<◌, ◌≤◌, max, Bool, true, false, ◌&&◌, if◌then◌else◌, List, [], ◌∷◌, ◌++◌, refl, sym, ap, ◌∙◌, subst, arith}
use Rattle.std.proofs.lemmas.Nat.{pow_pos, pow-add}
use Rattle.fir_base.specs.Ticks.{Env}
use Rattle.fir_bits.specs.Values.{is_negative}
use Rattle.fir_bits.specs.Operators.{flag}
use Rattle.fir_bits.specs.declared.values.Num.{Num}
use Rattle.fir_net.specs.working.Values.{at_width}
use Rattle.ver_ast.specs.Atoms.{AtomTree, net, constant, bit_select, part_select, repeat, atoms_of}
use Rattle.ver_ast.specs.Nets.{SizedNet, width_among}
use Rattle.ver_ast.specs.AtomWidths.{atom_width, joined_width}
use Rattle.ver_ast.specs.AtomValues.{copies, atom_value, joined_value}
use Rattle.ver_ast.specs.SoundSides.{IsSound, AreSound, atom_depth, joined_depth, HasWidth}
use Rattle.ver_build.specs.declared.held.Part.{Part}
use Rattle.ver_build.specs.declared.held.Source.{Source}
use Rattle.ver_build.specs.declared.held.Source.TheVariants as source
use Rattle.ver_build.specs.declared.held.Held.{Held}
use Rattle.ver_build.specs.working.Held.{fit, source_number, held_number}
use Rattle.ver_build.specs.working.Operands.{selected, bits_of_net, kept_bits, top_bit, copies_of, zeros, extension, source_parts, parts, side_by_side, atom_at, amount}
use Rattle.ver_build.proofs.Choices.{if_equal}
use Rattle.ver_build.proofs.Fields.{wide, fill, fill-none, fill-one, copies-flag, extended-split, top_is_sign}
use Rattle.ver_build.proofs.Standing.{IsPart, IsSource, Stands, FitsSource, Holds}
use Rattle.ver_build.proofs.Fitted.{zero_env, zero_fits, held_below, held_as, holds_itself, fit_holds}

module _ (nets : List SizedNet) (env : Env) where
  -- an operand of w bits with that value
  pub record Gives (w n : ℕ) (a : AtomTree) : Type 0 where
    pub fits : HasWidth nets w a
    pub value : atom_value nets env a ≡ n

  -- parts of w bits in all, with that value side by side
  pub record AreBits (w n : ℕ) (atoms : List AtomTree) : Type 0 where
    pub sound : AreSound nets (atoms_of atoms)
    pub shallow : joined_depth (atoms_of atoms) ≤ 2
    pub wide : joined_width nets (atoms_of atoms) ≡ w
    pub value : joined_value nets env (atoms_of atoms) ≡ n

  all_sound : (xs ys : List AtomTree) → AreSound nets (atoms_of xs) → AreSound nets (atoms_of ys) → AreSound nets (atoms_of (xs ++ ys))
  all_sound [] ys h k = k
  all_sound (a ∷ xs) ys h k = (h.0, all_sound xs ys h.1 k)

  depth_of_both : (xs ys : List AtomTree) → joined_depth (atoms_of xs) ≤ 2 → joined_depth (atoms_of ys) ≤ 2 → joined_depth (atoms_of (xs ++ ys)) ≤ 2
  depth_of_both [] ys h k = k
  depth_of_both (a ∷ xs) ys h k = omega (arith, depth_of_both xs ys (omega arith) k)

  width_of_both : (xs ys : List AtomTree)
      → joined_width nets (atoms_of (xs ++ ys)) ≡ joined_width nets (atoms_of xs) + joined_width nets (atoms_of ys)
  width_of_both [] ys = omega arith
  width_of_both (a ∷ xs) ys = omega (arith, width_of_both xs ys)

  value_of_both : (xs ys : List AtomTree)
      → joined_value nets env (atoms_of (xs ++ ys))
      ≡ joined_value nets env (atoms_of xs) * 2 ^ joined_width nets (atoms_of ys) + joined_value nets env (atoms_of ys)
  value_of_both [] ys = omega arith
  value_of_both (a ∷ xs) ys =
      let split = ap (λ (x : ℕ). 2 ^ x) (width_of_both xs ys) ∙ pow-add 2 (joined_width nets (atoms_of xs)) (joined_width nets (atoms_of ys)) in
      rw (value_of_both xs ys, split)
      (regrouped (atom_value nets env a) (2 ^ joined_width nets (atoms_of xs)) (2 ^ joined_width nets (atoms_of ys))
      (joined_value nets env (atoms_of xs)) (joined_value nets env (atoms_of ys)))
    where
      regrouped : (a x y b c : ℕ) → a * (x * y) + (b * y + c) ≡ (a * x + b) * y + c
      regrouped a x y b c = omega arith

  pub both_bits : (u v m n : ℕ) (xs ys : List AtomTree) → AreBits u m xs → AreBits v n ys → AreBits (u + v) (m * 2 ^ v + n) (xs ++ ys)
  both_bits u v m n xs ys h k = record {
    sound = all_sound xs ys h.sound k.sound;
    shallow = depth_of_both xs ys h.shallow k.shallow;
    wide = omega (arith, width_of_both xs ys, h.wide, k.wide);
    value =
        value_of_both xs ys ∙ ap (λ (x : ℕ). joined_value nets env (atoms_of xs) * 2 ^ x + joined_value nets env (atoms_of ys)) k.wide
        ∙ ap (λ (x : ℕ). x * 2 ^ v + joined_value nets env (atoms_of ys)) h.value ∙ ap (λ (x : ℕ). m * 2 ^ v + x) k.value;
  }

  no_bits_are : (w n : ℕ) → w ≡ 0 → n ≡ 0 → AreBits w n []
  no_bits_are w n e f = record { sound = tt; shallow = omega arith; wide = sym e; value = sym f }

  one_part : (w n : ℕ) (a : AtomTree) → IsSound nets a → atom_depth a ≤ 2 → atom_width nets a ≡ w → atom_value nets env a ≡ n → AreBits w n (a ∷ [])
  one_part w n a sound shallow wide value = record { sound = (sound, tt); shallow = omega arith; wide = omega arith; value = omega arith }

  pub constant_bits : (w n : ℕ) → 1 ≤ w → w ≤ 128 → n < 2 ^ w → AreBits w n (constant w n ∷ [])
  constant_bits w n some narrow below = one_part w n (constant w n) (some, narrow, below) (omega arith) refl refl

  pub zeros_bits : (w : ℕ) → w ≤ 128 → AreBits w 0 (zeros w)
  zeros_bits w narrow =
      if_equal (AreBits w 0) w 0 [] (constant w 0 ∷ []) (λ e. no_bits_are w 0 e refl) (λ f. constant_bits w 0 (omega arith) narrow (pow_pos w))

  -- parts side by side as an operand
  pub side_gives : (w n : ℕ) (atoms : List AtomTree) → 1 ≤ w → w ≤ 128 → AreBits w n atoms → Gives w n (side_by_side atoms)
  side_gives w n [] some narrow is = absurd (omega (arith, is.wide))
  side_gives w n (a ∷ []) some narrow is = record {
    fits = record { operand = record { sound = is.sound.0; shallow = omega (arith, is.shallow) }; wide = omega (arith, is.wide) };
    value = omega (arith, is.value);
  }
  side_gives w n (a ∷ b ∷ more) some narrow is = record {
    fits = record {
      operand = record { sound = (is.sound.0, is.sound.1, omega (arith, is.wide)); shallow = omega (arith, is.shallow) };
      wide = is.wide;
    };
    value = is.value;
  }

  pub constant_gives : (w n : ℕ) → 1 ≤ w → w ≤ 128 → n < 2 ^ w → Gives w n (constant w n)
  constant_gives w n some narrow below = side_gives w n (constant w n ∷ []) some narrow (constant_bits w n some narrow below)

  pub net_gives : (name : List ℕ) (w : ℕ) → 1 ≤ w → width_among nets name ≡ w → Gives w (env name) (net name)
  net_gives name w some declared = record {
    fits = record { operand = record { sound = omega arith; shallow = omega arith }; wide = declared };
    value = refl;
  }

  -- a select within a net of more bits than one
  selected_bits : (v : ℕ) (name : List ℕ) (hi lo : ℕ) → width_among nets name ≡ v → 2 ≤ v → lo ≤ hi → hi < v
      → AreBits (hi + 1 - lo) (env name / 2 ^ lo % 2 ^ (hi + 1 - lo)) (selected name hi lo ∷ [])
  selected_bits v name hi lo declared two low high =
      if_equal (λ a. AreBits (hi + 1 - lo) (env name / 2 ^ lo % 2 ^ (hi + 1 - lo)) (a ∷ [])) hi lo (bit_select name lo) (part_select name hi lo)
      (λ same. let one : hi + 1 - lo ≡ 1 = omega arith in
      rw one (one_part 1 (env name / 2 ^ lo % 2 ^ 1) (bit_select name lo) (omega arith, omega arith) (omega arith) refl refl))
      (λ other.
      one_part (hi + 1 - lo) (env name / 2 ^ lo % 2 ^ (hi + 1 - lo)) (part_select name hi lo) (omega arith, low, omega arith) (omega arith) refl refl)

  -- the low bits of a whole net
  all_bits : (name : List ℕ) (own : ℕ) → width_among nets name ≡ own → 1 ≤ own → env name < 2 ^ own → AreBits own (env name % 2 ^ own) (net name ∷ [])
  all_bits name own declared some below =
      one_part own (env name % 2 ^ own) (net name) (omega arith) (omega arith) declared (sym (wide (env name) own own below (omega arith)))

  module _ (u : ℕ) (p : Part) (is : IsPart nets u p) (below : env p.name < 2 ^ p.own) where
    -- those bits of the net that count
    pub net_bits : (hi lo : ℕ) → lo ≤ hi → hi < p.kept → AreBits (hi + 1 - lo) (env p.name / 2 ^ lo % 2 ^ (hi + 1 - lo)) (bits_of_net p hi lo ∷ [])
    net_bits hi lo low high =
        let within = is.within in
        if_equal (λ a. AreBits (hi + 1 - lo) (env p.name / 2 ^ lo % 2 ^ (hi + 1 - lo)) (a ∷ [])) p.own 1 (net p.name) (selected p.name hi lo)
        (λ one.
        let at_hi : hi ≡ 0 = omega arith in
        let at_lo : lo ≡ 0 = omega arith in
        let all : env p.name / 2 ^ 0 ≡ env p.name = omega arith in
        rw (at_hi, at_lo, all) (rw one at (all_bits p.name p.own is.declared (omega arith) below)))
        (λ more. selected_bits p.own p.name hi lo is.declared (omega arith) low (omega arith))

    low_part : AreBits p.kept (env p.name % 2 ^ p.kept) (kept_bits p ∷ [])
    low_part =
        let some = is.some in
        let within = is.within in
        if_equal (λ a. AreBits p.kept (env p.name % 2 ^ p.kept) (a ∷ [])) p.own p.kept (net p.name) (selected p.name (p.kept - 1) 0)
        (λ same. subst (λ (k : ℕ). AreBits k (env p.name % 2 ^ k) (net p.name ∷ [])) same (all_bits p.name p.own is.declared (omega arith) below))
        (λ other.
        let count : p.kept - 1 + 1 - 0 ≡ p.kept = omega arith in
        let all : env p.name / 2 ^ 0 ≡ env p.name = omega arith in
        rw (count, all) at (selected_bits p.own p.name (p.kept - 1) 0 is.declared (omega arith) (omega arith) (omega arith)))

    abbrev pub sign : Bool → Bool
    sign signed = signed && is_negative p.kept (env p.name % 2 ^ p.kept)

    top_part : AreBits 1 (flag (sign true)) (top_bit p ∷ [])
    top_part =
        let some = is.some in
        let one : p.kept - 1 + 1 - (p.kept - 1) ≡ 1 = omega arith in
        rw (one, top_is_sign (env p.name) p.kept some) at (net_bits (p.kept - 1) (p.kept - 1) (omega arith) (omega arith))

    -- a bit of a net opens no brace
    top_is_flat : atom_depth (top_bit p) ≡ 0
    top_is_flat =
        let top = p.kept - 1 in
        if_equal (λ a. atom_depth a ≡ 0) p.own 1 (net p.name) (selected p.name top top) (λ e. refl)
        (λ f. if_equal (λ a. atom_depth a ≡ 0) top top (bit_select p.name top) (part_select p.name top top) (λ e. refl) (λ f. refl))

    signs : (w : ℕ) → 1 ≤ w → w ≤ 128 → AreBits w (fill (sign true) w) (copies_of w (top_bit p) ∷ [])
    signs w some narrow =
        let bit = top_part in
        if_equal (λ a. AreBits w (fill (sign true) w) (a ∷ [])) w 1 (top_bit p) (repeat w (top_bit p))
        (λ one. rw (one, fill-one (sign true)) bit)
        (λ more.
        let wide : atom_width nets (top_bit p) ≡ 1 = omega (arith, bit.wide) in
        let value : atom_value nets env (top_bit p) ≡ flag (sign true) = omega (arith, bit.value) in
        one_part w (fill (sign true) w) (repeat w (top_bit p)) (bit.sound.0, some, rw wide (omega arith)) (omega (arith, top_is_flat))
        (rw wide (omega arith))
        (ap (λ (x : ℕ). copies w x (atom_value nets env (top_bit p))) wide ∙ ap (copies w 1) value ∙ copies-flag (sign true) w))

    pub extension_bits : (signed : Bool) (w : ℕ) → w ≤ 128 → AreBits w (fill (sign signed) w) (extension signed p w)
    extension_bits signed w narrow =
        if_equal (AreBits w (fill (sign signed) w)) w 0 [] (if signed then (copies_of w (top_bit p) ∷ []) else (constant w 0 ∷ []))
        (λ e. no_bits_are w (fill (sign signed) w) e (ap (fill (sign signed)) e ∙ fill-none (sign signed)))
        (λ f. above signed (omega arith))
      where
        above : (signed : Bool) → 1 ≤ w → AreBits w (fill (sign signed) w) (if signed then (copies_of w (top_bit p) ∷ []) else (constant w 0 ∷ []))
        above true some = signs w some narrow
        above false some = constant_bits w 0 some narrow (pow_pos w)

    pub part_bits : (signed : Bool) → u ≤ 128 → AreBits u (source_number env signed u (source.Net p)) (source_parts signed u (source.Net p))
    part_bits signed narrow =
        let within = is.below in
        let total : u - p.kept + p.kept ≡ u = omega arith in
        rw (extended-split signed p.kept (env p.name % 2 ^ p.kept) u is.below)
        (rw total at (both_bits (u - p.kept) p.kept _ _ (extension signed p (u - p.kept)) (kept_bits p ∷ [])
        (extension_bits signed (u - p.kept) (omega arith)) low_part))

  pub parts_bits : (h : Held) → Stands nets h → FitsSource env h.source → AreBits h.width (held_number env h) (parts h)
  parts_bits h is below =
      if_equal (AreBits h.width (held_number env h)) h.width 0 [] (source_parts h.signed h.width h.source)
      (λ e. let one : 2 ^ h.width ≡ 1 = ap (λ (x : ℕ). 2 ^ x) e in no_bits_are h.width (held_number env h) e
      (omega (arith, held_below nets env h is)))
      (λ f. of_source h.source is.source below (omega arith) is.narrow)
    where
      of_source : (s : Source) → IsSource nets h.width s → FitsSource env s → 1 ≤ h.width → h.width ≤ 128
          → AreBits h.width (source_number env h.signed h.width s) (source_parts h.signed h.width s)
      of_source (source.Number v) is below some narrow = constant_bits h.width v.number some narrow is.below
      of_source (source.Net p) is below some narrow = part_bits h.width p is below h.signed narrow

  -- a value as an operand of w bits
  pub atom_gives : (w : ℕ) (h : Held) (v : Num) → Holds nets env h v → 1 ≤ w → w ≤ 128 → Gives w (at_width v w) (atom_at w h)
  atom_gives w h v is some narrow =
      let there = fit_holds nets env w h v is narrow in
      let bits = parts_bits (fit w h) there.standing.stands there.below in
      side_gives w (at_width v w) (parts (fit w h)) some narrow (rw there.number at bits)

  -- an amount of a shift
  pub amount_gives : (h : Held) (v : Num) → Holds nets env h v → Gives (max 1 h.width) (at_width v (max 1 h.width)) (amount h)
  amount_gives h v is = let narrow = is.standing.stands.narrow in atom_gives (max 1 h.width) h v is (omega arith) (omega arith)

-- a value that stands gives an operand, whatever the nets have
pub atom_fits : (nets : List SizedNet) (w : ℕ) (h : Held) → Stands nets h → 1 ≤ w → w ≤ 128 → HasWidth nets w (atom_at w h)
atom_fits nets w h is some narrow =
    let there = holds_itself nets zero_env h is (zero_fits h.source) in
    (atom_gives nets zero_env w h (held_as zero_env h) there some narrow).fits

pub atom_means : (nets : List SizedNet) (env : Env) (w : ℕ) (h : Held) (v : Num) → Holds nets env h v → 1 ≤ w → w ≤ 128
    → atom_value nets env (atom_at w h) ≡ at_width v w
atom_means nets env w h v is some narrow = (atom_gives nets env w h v is some narrow).value
