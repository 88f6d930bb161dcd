-- A zero for each word of the state, one name after the other.
use Rattle.std.proofs.Common.{◌≡◌, ℕ, ◌+◌, ◌-◌, ◌<◌, ◌≤◌, List, [], ◌∷◌, ◌++◌, length, take, get_or, replicate, sym, ap, ◌∙◌, length-append, arith}
use Rattle.std.proofs.Math.ListN.{length-replicate}
use Rattle.std.proofs.lemmas.List.{append-nil, take_all, take_more, replicate-append-replicate}
use Rattle.std.proofs.lemmas.Grind.{flat_map-append}
use Rattle.trace_text.specs.declared.shape.StateWord.{StateWord}
use Rattle.trace_text.specs.Shapes.{size_of, state_widths}

-- the words of one name more
widths_more : (ws : List StateWord) (i : ℕ) (w : StateWord) → i < length ws → w ≡ get_or ws i w → length (state_widths (take (i + 1) ws)) ≡ length (state_widths (take i ws)) + size_of w
widths_more ws i w within is =
    let more : take (i + 1) ws ≡ take i ws ++ w ∷ [] = take_more ws i w within ∙ ap (λ x. take i ws ++ x ∷ []) (sym is) in
    let one = replicate (size_of w) w.width in
    let widths : state_widths (take (i + 1) ws) ≡ state_widths (take i ws) ++ one =
    ap state_widths more ∙ flat_map-append (λ s. replicate (size_of s) s.width) (take i ws) (w ∷ []) ∙ ap (λ t. state_widths (take i ws) ++ t) (append-nil one) in
    ap length widths ∙ length-append (state_widths (take i ws)) one ∙ ap (λ n. length (state_widths (take i ws)) + n) (length-replicate (size_of w) w.width)

pub zeros_more : (ws : List StateWord) (i : ℕ) (w : StateWord) (old new : List ℕ) (n count size : ℕ) → i < length ws → w ≡ get_or ws i w → old ≡ replicate (length (state_widths (take i ws))) 0
    → n ≡ length old → count ≡ n → size ≡ size_of w → new ≡ take (count + size) old ++ replicate (count + size - n) 0 → new ≡ replicate (length (state_widths (take (i + 1) ws))) 0
zeros_more ws i w old new n count size within is zeros long counted sized h =
    let before = length (state_widths (take i ws)) in
    let room : length old ≤ count + size = omega arith in
    let added : count + size - n ≡ size_of w = omega arith in
    h ∙ ap (λ t. t ++ replicate (count + size - n) 0) (take_all (count + size) old room) ∙ ap (λ k. old ++ replicate k 0) added
    ∙ ap (λ t. t ++ replicate (size_of w) 0) zeros ∙ replicate-append-replicate before (size_of w) 0 ∙ ap (λ k. replicate k 0) (sym (widths_more ws i w within is))
