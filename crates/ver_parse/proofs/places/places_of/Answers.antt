use Rattle.std.proofs.Common.{◌++◌, slice_get, sym, ap, ◌∙◌, arith}
use Rattle.ver_parse.specs.working.Whole.{place_of}
use Rattle.ver_parse.proofs.PlacesRead.{places_more}
use Rattle.ver_parse.proofs.places.places_of.Goals as goal

pub loop-index-preserved : goal.loop-index-preserved
loop-index-preserved c =
    c.in_ok-put_place.ensures ∙ ap (λ ps. ps ++ place_of (slice_get c.args.tokens.now.tokens c.loop-index.index)) c.loop-index.invariant
    ∙ sym (places_more c.args.tokens.now.tokens c.loop-index.index (omega arith))
