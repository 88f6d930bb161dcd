-- Some bits of a value, as parts of an operand.
-- The bits of a net that count come from it, and those above them are the value's sign.
use Rattle.std.proofs.Common.{◌≡◌, ℕ, ◌+◌, ◌-◌, ◌/◌, ◌%◌, ◌^◌, ◌<◌, ◌≤◌, min, Bool, List, [], ◌∷◌, ◌++◌, arith}
use Rattle.std.proofs.lemmas.Nat.{pow_pos, mod_below}
use Rattle.fir_base.specs.Ticks.{Env}
use Rattle.ver_ast.specs.Nets.{SizedNet}
use Rattle.ver_build.specs.declared.held.Part.{Part}
use Rattle.ver_build.specs.declared.held.Source.{Source}
use Rattle.ver_build.specs.declared.held.Source.TheVariants as source
use Rattle.ver_build.specs.declared.held.Held.{Held}
use Rattle.ver_build.specs.working.Held.{source_number, held_number}
use Rattle.ver_build.specs.working.Operands.{bits_of_net, extension, net_field, source_field, field}
use Rattle.ver_build.proofs.Choices.{if_most}
use Rattle.ver_build.proofs.Fields.{fill, extended-split, field_past, field_across}
use Rattle.ver_build.proofs.Standing.{IsPart, IsSource, Stands, FitsSource}
use Rattle.ver_build.proofs.OperandAtoms.{AreBits, both_bits, constant_bits, sign, net_bits, extension_bits}

module _ (nets : List SizedNet) (env : Env) where
  module _ (signed : Bool) (u : ℕ) (p : Part) (is : IsPart nets u p) (below : env p.name < 2 ^ p.own) (w hi lo : ℕ) where
    part_field : w ≤ 128 → lo ≤ hi → hi < u → w ≡ hi + 1 - lo
        → AreBits nets env w (source_number env signed u (source.Net p) / 2 ^ lo % 2 ^ w) (net_field signed w hi lo p)
    part_field narrow low high count =
        let n = source_number env signed u (source.Net p) in
        let s = sign nets env u p is below signed in
        let top = min hi (p.kept - 1) in
        let c = top + 1 - lo in
        let split = extended-split signed p.kept (env p.name % 2 ^ p.kept) u is.below in
        let some = is.some in
        if_most (AreBits nets env w (n / 2 ^ lo % 2 ^ w)) p.kept lo (extension signed p w) (extension signed p (w - c) ++ bits_of_net p top lo ∷ [])
        (λ past.
        let value = field_past s n (env p.name) p.kept u is.below split lo w (omega arith) past in
        rw value (extension_bits nets env u p is below signed w narrow))
        (λ before.
        let value = field_across s n (env p.name) p.kept u is.below split lo w (omega arith) c before (omega arith) in
        let total : w - c + c ≡ w = omega arith in
        rw value (rw total at (both_bits nets env (w - c) c (fill s (w - c)) (env p.name / 2 ^ lo % 2 ^ c) (extension signed p (w - c))
        (bits_of_net p top lo ∷ [])
        (extension_bits nets env u p is below signed (w - c) (omega arith)) (net_bits nets env u p is below top lo (omega arith) (omega arith)))))

  pub field_bits : (w hi lo : ℕ) (h : Held) → Stands nets h → FitsSource env h.source → lo ≤ hi → hi < h.width → w ≡ hi + 1 - lo
      → AreBits nets env w (held_number env h / 2 ^ lo % 2 ^ w) (field w hi lo h)
  field_bits w hi lo h is below low high count = of_source h.source is.source below (let narrow = is.narrow in omega arith)
    where
      of_source : (s : Source) → IsSource nets h.width s → FitsSource env s → w ≤ 128
          → AreBits nets env w (source_number env h.signed h.width s / 2 ^ lo % 2 ^ w) (source_field h.signed w hi lo s)
      of_source (source.Number v) is below narrow =
          constant_bits nets env w (v.number / 2 ^ lo % 2 ^ w) (omega arith) narrow (mod_below (v.number / 2 ^ lo) (2 ^ w) (pow_pos w))
      of_source (source.Net p) is below narrow = part_field h.signed h.width p is below w hi lo narrow low high count
