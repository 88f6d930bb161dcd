-- Leaves have one number exactly where they have one class.
use Rattle.std.proofs.Common.{◌≡◌, ℕ, ◌+◌, List, [], ◌∷◌, map, Some, refl, ap, sym, ◌∙◌, subst, arith}
use Rattle.std.specs.Prelude.{option_map, slice_get}
use Rattle.std.proofs.lemmas.Option.{same_Some, slice_get-map}
use Rattle.fir_ast.specs.Circuits.{ModuleTree, CircuitTree}
use Rattle.fir_meaning.specs.working.NameGroups.{HasNames}
use Rattle.fir_meaning.specs.TypeGroup.{type_faults}
use Rattle.fir_meaning.specs.SizedDeclarations.{port_numbers, all_port_numbers}
use Rattle.fir_meaning.specs.ResetItems.{End}
use Rattle.fir_meaning.specs.ResetWalks.{IsLeafOf}
use Rattle.fir_reset.specs.working.LeafClasses.{Part, of_ports, of_declaration, Class, class_of}
use Rattle.fir_reset.specs.working.Inferred.{leaf_number}
use Rattle.fir_reset.proofs.ClassRanges.{counts_of, part_begins, InPart, has_class}
use Rattle.fir_reset.proofs.FirstNumbers.{body_total, module_counts}
use Rattle.fir_reset.proofs.Sums.{total, sum_before, Within, within_total, one_range}

all_ports : (ms : List ModuleTree) → total (map port_numbers ms) ≡ all_port_numbers ms
all_ports [] = refl
all_ports (m ∷ ms) = ap (λ n. port_numbers m + n) (all_ports ms)

same_class : (a b : Class) → a.number ≡ b.number → a.part ≡ b.part → a.offset ≡ b.offset → a ≡ b
same_class a b h i j =
    ap (λ n. record { number = n; part = a.part; offset = a.offset }) h
    ∙ ap (λ p. record { number = b.number; part = p; offset = a.offset }) i
    ∙ ap (λ n. record { number = b.number; part = b.part; offset = n }) j

record OnePart (n o : ℕ) (p q : Part) (a b : ℕ) : Type 0 where
  number : n ≡ o
  part : p ≡ q
  offset : a ≡ b

module _ (c : CircuitTree) where
  -- the ports come first
  ports_apart : (n o place a b : ℕ) → Within (map port_numbers c.modules) n a
      → sum_before (map port_numbers c.modules) n + a
      ≡ all_port_numbers c.modules + sum_before (map (body_total c.modules) c.modules) o + sum_before (counts_of c.modules (slice_get c.modules o)) place + b → ⊥
  ports_apart n o place a b v h =
      let below = within_total (map port_numbers c.modules) n a v in
      let all = all_ports c.modules in
      omega (arith, below, all, h)

  -- of declarations of bodies
  one_declaration : (n o place other a b : ℕ) → InPart c n (of_declaration place) a → InPart c o (of_declaration other) b
      → part_begins c n (of_declaration place) + a ≡ part_begins c o (of_declaration other) + b → OnePart n o (of_declaration place) (of_declaration other) a b
  one_declaration n o place other a b v w h =
      let bodies = map (body_total c.modules) c.modules in
      let start = all_port_numbers c.modules in
      let one = sum_before (module_counts c.modules v.0) place + a in
      let two = sum_before (module_counts c.modules w.0) other + b in
      let one_is : sum_before (counts_of c.modules (slice_get c.modules n)) place ≡ sum_before (module_counts c.modules v.0) place =
      ap (λ x. sum_before (counts_of c.modules x) place) v.1 in
      let two_is : sum_before (counts_of c.modules (slice_get c.modules o)) other ≡ sum_before (module_counts c.modules w.0) other =
      ap (λ x. sum_before (counts_of c.modules x) other) w.1 in
      let sums : sum_before bodies n + one ≡ sum_before bodies o + two = omega (arith, one_is, two_is, h) in
      let in_one : Within bodies n one =
      record {
        count = body_total c.modules v.0;
        there = slice_get-map (body_total c.modules) c.modules n ∙ ap (option_map (body_total c.modules)) v.1;
        less = within_total (module_counts c.modules v.0) place a v.2;
      } in
      let in_two : Within bodies o two =
      record {
        count = body_total c.modules w.0;
        there = slice_get-map (body_total c.modules) c.modules o ∙ ap (option_map (body_total c.modules)) w.1;
        less = within_total (module_counts c.modules w.0) other b w.2;
      } in
      let modules = one_range bodies n o one two in_one in_two sums in
      let inside : w.0 ≡ v.0 = same_Some w.0 v.0 (sym w.1 ∙ ap (slice_get c.modules) (sym modules.0) ∙ v.1) in
      let counts = module_counts c.modules v.0 in
      let there : Within counts other b = subst (λ m. Within (module_counts c.modules m) other b) inside w.2 in
      let same : sum_before counts place + a ≡ sum_before counts other + b = modules.1 ∙ ap (λ m. sum_before (module_counts c.modules m) other + b) inside in
      let places = one_range counts place other a b v.2 there same in
      record { number = modules.0; part = ap of_declaration places.0; offset = places.1 }

  one_part : (n o : ℕ) (p q : Part) (a b : ℕ) → InPart c n p a → InPart c o q b → part_begins c n p + a ≡ part_begins c o q + b → OnePart n o p q a b
  one_part n o of_ports of_ports a b v w h =
      let r = one_range (map port_numbers c.modules) n o a b v w h in record { number = r.0; part = refl; offset = r.1 }
  one_part n o of_ports (of_declaration other) a b v w h = absurd (ports_apart n o other a b v h)
  one_part n o (of_declaration place) of_ports a b v w h = absurd (ports_apart o n place b a w (sym h))
  one_part n o (of_declaration place) (of_declaration other) a b v w h = one_declaration n o place other a b v w h

pub has_number : (c : CircuitTree) → HasNames c → type_faults c ≡ [] → (e : End) → IsLeafOf c e → (n : ℕ) × (leaf_number c e.item ≡ Some n)
has_number c names clear e l = let r = has_class c names e l in (part_begins c r.class.number r.class.part + r.class.offset, r.number)

pub one_number : (c : CircuitTree) → HasNames c → type_faults c ≡ [] → (e f : End) → IsLeafOf c e → IsLeafOf c f → class_of c e.item ≡ class_of c f.item
    → leaf_number c e.item ≡ leaf_number c f.item
one_number c names clear e f l m h =
    let one = has_class c names e l in
    let other = has_class c names f m in
    let same : one.class ≡ other.class = same_Some one.class other.class (sym one.of_class ∙ h ∙ other.of_class) in
    one.number ∙ ap (λ (k : Class). Some (part_begins c k.number k.part + k.offset)) same ∙ sym other.number

pub one_class : (c : CircuitTree) → HasNames c → type_faults c ≡ [] → (e f : End) (n : ℕ) → IsLeafOf c e → IsLeafOf c f → leaf_number c e.item ≡ Some n
    → leaf_number c f.item ≡ Some n → class_of c e.item ≡ class_of c f.item
one_class c names clear e f n l m h i =
    let one = has_class c names e l in
    let other = has_class c names f m in
    let begins = part_begins c one.class.number one.class.part + one.class.offset in
    let begun = part_begins c other.class.number other.class.part + other.class.offset in
    let numbers : begins ≡ begun = same_Some begins begun (sym one.number ∙ h ∙ sym i ∙ other.number) in
    let same =
    one_part c one.class.number other.class.number one.class.part other.class.part one.class.offset other.class.offset one.within other.within numbers in
    one.of_class ∙ ap (λ (k : Class). Some k) (same_class one.class other.class same.number same.part same.offset) ∙ sym other.of_class
