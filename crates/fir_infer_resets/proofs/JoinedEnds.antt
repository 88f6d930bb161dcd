-- What is joined is joined either way round.
use Rattle.std.proofs.Common.{sym, inl, inr}
use Rattle.fir_ast.specs.Circuits.{CircuitTree}
use Rattle.fir_meaning.specs.ResetItems.{End}
use Rattle.fir_meaning.specs.ResetJoins.{AreElements}
use Rattle.fir_meaning.specs.ResetWalks.{Joined}

elements_back : (a b : End) → AreElements a b → AreElements b a
elements_back a b e =
    record {
      number = e.number;
      vector = e.vector;
      one = e.other;
      other = e.one;
      rest = e.rest;
      one_is = e.other_is;
      other_is = e.one_is;
      ground_type = sym e.ground_type;
      place = sym e.place;
    }

pub joined_back : (c : CircuitTree) (a b : End) → Joined c a b → Joined c b a
joined_back c a b (inl j) = inr (inl j)
joined_back c a b (inr (inl j)) = inl j
joined_back c a b (inr (inr (l, m, e))) = inr (inr (m, l, elements_back a b e))
