use Rattle.std.proofs.Common.{◌≡◌, ◌+◌, Some, None, length, replicate, refl, sym, ap, ◌∙◌, subst, arith, rules}
use Rattle.std.specs.Prelude.{slice_get}
use Rattle.std.proofs.lemmas.Option.{slice_get_read}
use Rattle.fir_inits.specs.working.Constants.{number_of, AreNumbers}
use Rattle.fir_inits.proofs.Evaluated.{number_of_net, number_within, numbers_first, numbers_last, numbers_more, numbers_skipped}
use Rattle.fir_inits.proofs.constants.constants.Goals as goal
use Rattle.fir_inits.proofs.constants.constants.Goals.{in-Some, in_default}

pub loop-read-init : goal.loop-read-init
loop-read-init c =
    let net = c.args.net.now in
    let zeros : c.in_ok-numbers.numbers.items ≡ replicate (length c.as_slice.result.now + length c.as_slice-2.result.now) 0 = c.in_ok-numbers.ensures.items_if_clones_equal (λ y same. search rules) in
    let size : replicate (length c.as_slice.result.now + length c.as_slice-2.result.now) 0 ≡ replicate (length net.leaves + length net.nodes) 0 = rw (c.as_slice.ensures, c.as_slice-2.ensures) refl in
    subst (AreNumbers net c.args.order.now 0) (sym (zeros ∙ size)) (numbers_first net c.args.order.now)

pub place-requires : goal.place-requires
place-requires c =
    number_of_net c.args.net.now c.requires c.loop-read.numbers.items c.loop-read.invariant.held c.read-item.result c.in-Some.number
    (ap (λ ns. number_of c.args.net.now ns c.read-item.result) (sym c.as_slice-in-loop-read.ensures.value) ∙ sym c.number_of.ensures ∙ c.in-Some.is)

pub index_mut-requires : goal.index_mut-requires
index_mut-requires c =
    let within =
    number_within c.args.net.now c.requires c.loop-read.numbers.items c.loop-read.invariant.held c.read-item.result c.in-Some.number
    (ap (λ ns. number_of c.args.net.now ns c.read-item.result) (sym c.as_slice-in-loop-read.ensures.value) ∙ sym c.number_of.ensures ∙ c.in-Some.is)
    in
    omega (arith, within, c.place.ensures, c.loop-read.numbers.ok)

pub loop-read-preserved : goal.loop-read-preserved
loop-read-preserved c =
    let net = c.args.net.now in
    let order = c.args.order.now in
    let n = c.loop-read.read-index in
    let v = c.read-item.result in
    let ns = c.loop-read.numbers.items in
    let at : slice_get order n ≡ Some v = slice_get_read order (length order) n v refl c.loop-read-test.true c.read-item.is in
    let made : number_of net ns v ≡ c.number_of.result = ap (λ xs. number_of net xs v) (sym c.as_slice-in-loop-read.ensures.value) ∙ sym c.number_of.ensures in
    elim c.match-number_of.branch [
      | in-Some w ↦
          let is : number_of net ns v ≡ Some w.in-Some.number = made ∙ w.in-Some.is in
          rw (w.numbers-is, w.place.ensures) (numbers_more net c.requires ns c.loop-read.invariant.held order n v at c.loop-read.invariant.known w.in-Some.number is)
      | in_default w ↦
          let none : number_of net ns v ≡ None = made ∙ w.in_default.is in
          rw w.numbers-is (numbers_skipped net c.requires ns c.loop-read.invariant.held order n v at c.loop-read.invariant.known none)
    ]

pub returns : goal.returns
returns c = numbers_last c.args.net.now c.args.order.now c.loop-read.read-index c.loop-read.numbers.items c.loop-read-test.false c.loop-read.invariant
