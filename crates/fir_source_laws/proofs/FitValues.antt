-- What a value is at the type of a sink.
use Rattle.std.proofs.Common.{◌++◌, refl}
use Rattle.std.proofs.lemmas.Bool.{le-leb, lt-leb}
use Rattle.fir_bits.specs.declared.types.NumTy.{NumTy}
use Rattle.fir_bits.specs.declared.values.Num.{Num}
use Rattle.fir_bits.specs.Values.{IsBitVector}
use Rattle.fir_bits.proofs.Readings.{reading-extended}
use Rattle.fir_meaning.specs.Values.{fit}
use Rattle.fir_meaning.specs.SourceStores.{below}
use Rattle.fir_meaning.specs.TreeValues.{aim_of, aim_value, value}
use Rattle.fir_meaning.proofs.FittedValues.{at_width_below}
use Rattle.fir_source_laws.specs.working.FitLaws.{ConnectsFit, IsFit}

pub is_fit : (v : Num) (t : NumTy) → IsBitVector v.value → IsFit v t (fit v t)
is_fit v t b = record {
  extended = λ wider. rw (le-leb v.value.width t.width wider) (reading-extended v.signed v.value.width v.value.number t.width b.below wider);
  cut = λ narrower. rw (lt-leb v.value.width t.width narrower) refl;
  within = at_width_below v t.width b;
}

pub connects_fit : ConnectsFit
connects_fit holds env path scope q x = (
  λ e b. is_fit (value scope (below path holds) (below path env) e q) (holds (path ++ x)) b,
  λ sink b. is_fit (aim_value (below path holds) (below path env) (aim_of scope (below path holds) (below path env) sink) q) (holds (path ++ x)) b,
)
