use Rattle.std.proofs.Common.{◌≡◌, [], ◌∷◌, ◌++◌, length, ap, ◌∙◌, arith}
use Rattle.fir_infer_widths.proofs.ArenaGrows.{keeps_made, marks_long}
use Rattle.fir_infer_widths.proofs.arena.Arena.push.Goals as goal

pub returns : goal.returns
returns c = λ meant rules e k is.
    let old = c.args.self.now in
    let number : c.len-number.result ≡ length old.written.items = omega (arith, c.len-number.ensures, old.written.ok.0) in (
      omega (arith, number, marks_long meant old.written.items k.marks),
      keeps_made meant rules old (record { written = c.push.new.self; bounds = c.push-2.new.self }) e c.args.term k is c.in_ok-push.ensures.items
          (c.in_ok-push-2.ensures.items ∙ ap (λ n. old.bounds.items ++ record { unknown = n; term = c.args.term } ∷ []) number),
    )
