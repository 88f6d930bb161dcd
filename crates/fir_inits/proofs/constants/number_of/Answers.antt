use Rattle.std.proofs.Common.{◌≡◌, ◌<◌, ◌≤◌, ℕ, List, None, Some, get_or, length, refl, ap, sym, ◌∙◌}
use Rattle.std.specs.Prelude.{slice_get}
use Rattle.std.proofs.lemmas.Option.{slice_get_past, slice_get_read}
use Rattle.fir_inits.specs.working.Constants.{leaf_number, node_number, number_of}
use Rattle.fir_inits.proofs.Evaluated.{support_fits}
use Rattle.fir_inits.proofs.constants.number_of.Goals as goal

-- where the number and the list are those of the net
found : {A : Type 0} → (ls xs : List A) (n k : ℕ) (x : A) → ls ≡ xs → n ≡ k → n < length ls → x ≡ get_or ls n x → slice_get xs k ≡ Some x
found {A} ls xs n k x e f low is = ap (λ (ys : List A). slice_get ys k) (sym e) ∙ ap (slice_get ls) (sym f) ∙ slice_get_read ls (length ls) n x refl low is

past : {A : Type 0} → (ls xs : List A) (n k : ℕ) → ls ≡ xs → n ≡ k → length ls ≤ n → slice_get xs k ≡ None
past {A} ls xs n k e f high = ap (λ (ys : List A). slice_get ys k) (sym e) ∙ ap (slice_get ls) (sym f) ∙ slice_get_past ls n high

pub returns-in-Some : goal.returns-in-Some
returns-in-Some c =
    let net = c.args.net.now in
    let l = c.in-Some.leaf.now in
    let at = found c.as_slice.result.now net.leaves c.number.result c.in-Leaf.leaf l c.as_slice.ensures c.number.ensures c.in-Some.ensures.lookup.3.0 c.in-Some.ensures.lookup.1 in
    c.leaf_number.ensures ∙ sym (ap (number_of net c.args.numbers.now) c.in-Leaf.is ∙ ap (leaf_number net c.args.numbers.now) at)

pub returns-in-None : goal.returns-in-None
returns-in-None c =
    let net = c.args.net.now in
    let none = past c.as_slice.result.now net.leaves c.number.result c.in-Leaf.leaf c.as_slice.ensures c.number.ensures c.in-None.ensures.lookup.3 in
    sym (ap (number_of net c.args.numbers.now) c.in-Leaf.is ∙ ap (leaf_number net c.args.numbers.now) none)

pub run-requires : goal.run-requires
run-requires c =
    let net = c.args.net.now in
    let n = c.in-Some-get.field-0.now in
    let at = found c.as_slice-in-Node.result.now net.nodes c.number-in-Node.result c.in-Node.node n c.as_slice-in-Node.ensures c.number-in-Node.ensures c.in-Some-get.ensures.lookup.3.0 c.in-Some-get.ensures.lookup.1 in
    (c.node_task.ensures n (ap (slice_get net.nodes) c.number-in-Some-get.ensures ∙ at)).runs c.args.numbers.now (support_fits net c.requires.whole c.args.numbers.now c.requires.held c.in-Node.node n at)

pub returns-in-Some-get : goal.returns-in-Some-get
returns-in-Some-get c =
    let net = c.args.net.now in
    let n = c.in-Some-get.field-0.now in
    let at = found c.as_slice-in-Node.result.now net.nodes c.number-in-Node.result c.in-Node.node n c.as_slice-in-Node.ensures c.number-in-Node.ensures c.in-Some-get.ensures.lookup.3.0 c.in-Some-get.ensures.lookup.1 in
    let gives = (c.node_task.ensures n (ap (slice_get net.nodes) c.number-in-Some-get.ensures ∙ at)).gives c.args.numbers.now (support_fits net c.requires.whole c.args.numbers.now c.requires.held c.in-Node.node n at) in
    ap Some (c.run.ensures ∙ gives) ∙ sym (ap (number_of net c.args.numbers.now) c.in-Node.is ∙ ap (node_number net c.args.numbers.now) at)

pub returns-in-None-get : goal.returns-in-None-get
returns-in-None-get c =
    let net = c.args.net.now in
    let none = past c.as_slice-in-Node.result.now net.nodes c.number-in-Node.result c.in-Node.node c.as_slice-in-Node.ensures c.number-in-Node.ensures c.in-None-get.ensures.lookup.3 in
    sym (ap (number_of net c.args.numbers.now) c.in-Node.is ∙ ap (node_number net c.args.numbers.now) none)
