use Rattle.std.proofs.Common.{◌≡◌, ℕ, ◌+◌, List, [], ◌∷◌, ◌++◌, drop, sym, ap, ◌∙◌, subst, append_assoc, append-nil}
use Rattle.std.proofs.lemmas.List.{drop_more, drop_all}
use Rattle.fir_tick.specs.working.StateWords.{input_width, input_widths}
use Rattle.fir_tick.proofs.trace_shape.input_widths.Goals as goal
use Rattle.fir_tick.proofs.trace_shape.input_widths.Goals.{in-Some+in_ok-push, in_default}

pub loop-leaf-preserved : goal.loop-leaf-preserved
loop-leaf-preserved c =
    let leaves = c.args.leaves.now in
    let i = c.loop-leaf.leaf-index in
    let leaf = c.leaf-item.result in
    let widths = c.loop-leaf.widths.items in
    let rest = input_widths (drop (i + 1) leaves) in
    let next : drop i leaves ≡ leaf ∷ drop (i + 1) leaves = drop_more leaves i leaf c.loop-leaf-test.true ∙ ap (λ l. l ∷ drop (i + 1) leaves) (sym c.leaf-item.is) in
    let more : (ws : List ℕ) → ws ≡ input_width leaf.role leaf.width → (widths ++ ws) ++ rest ≡ input_widths leaves = λ ws is.
    append_assoc widths ws rest ∙ ap (λ (front : List ℕ). widths ++ (front ++ rest)) is ∙ ap (λ ls. widths ++ input_widths ls) (sym next) ∙ c.loop-leaf.invariant in
    elim c.match-input_width.branch [
      | in-Some+in_ok-push w ↦ rw (w.widths-is, w.in_ok-push.ensures.items) (more (w.in-Some.width ∷ []) w.in-Some.ensures)
      | in_default w ↦ rw w.widths-is (subst (λ (ws : List ℕ). ws ++ rest ≡ input_widths leaves) (append-nil widths) (more [] w.in_default.ensures))
    ]

pub returns : goal.returns
returns c =
    let widths = c.loop-leaf.widths.items in
    let none = drop_all c.loop-leaf.leaf-index c.args.leaves.now c.loop-leaf-test.false in
    sym (ap (λ ls. widths ++ input_widths ls) none ∙ append-nil widths) ∙ c.loop-leaf.invariant
