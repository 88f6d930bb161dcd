use Rattle.std.proofs.Common.{◌≡◌, take}
use Rattle.std.specs.Prelude.{map, sum_by}
use Rattle.fir_base.specs.Lists.{Distinct}
use Rattle.trace_text.specs.Shapes.{size_of}
use Rattle.trace_text.specs.working.Places.{HasPlaces}
use Rattle.trace_text.proofs.places.places_of.Given as goal

abbrev pub invariant-loop-word : goal.invariant-loop-word
invariant-loop-word l = record {
  places : HasPlaces l.places (take l.word-index l.state);
  once : Distinct (map (λ s. s.name) (take l.word-index l.state));
  place : l.place ≡ sum_by size_of (take l.word-index l.state);
}
