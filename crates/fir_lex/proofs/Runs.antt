-- Runs of bytes of one kind: what is taken while a test passes.
use Rattle.std.proofs.Common.{◌≡◌, ℕ, Bool, true, false, List, [], ◌∷◌, ◌++◌, refl, ap, ◌∙◌}
use Rattle.std.specs.Prelude.{Decides, take_while}
use Rattle.std.specs.List.{AllByRecursion}
use Rattle.std.proofs.lemmas.Bool.{false_from_ne_true}
use Rattle.std.proofs.lemmas.Bool.Decides.{not_from_Decides}
use Rattle.std.proofs.lemmas.List.Sums.{take_while-cons}
use Rattle.fir_base.specs.Bytes.{is_digit, is_word_byte}
use Rattle.fir_lex.specs.working.Bytes.{is_blank}
use Rattle.fir_lex.specs.Spelled.{IsDigit, ContinuesWord}
use Rattle.fir_lex.specs.Longest.{BeginsWithNo}
use Rattle.fir_lex.specs.Pieces.{IsBlank}
use Rattle.fir_lex.proofs.ByteKinds.{digit_decides, continues_word_decides, blank_decides}

-- a test, and what it tells
pub record Kind : Type 1 where
  pub test : ℕ → Bool
  pub Is : ℕ → Type 0
  pub decides : (b : ℕ) → Decides (test b) (Is b)

abbrev pub word_kind : Kind
word_kind = record { test = is_word_byte; Is = ContinuesWord; decides = continues_word_decides }

abbrev pub digit_kind : Kind
digit_kind = record { test = is_digit; Is = IsDigit; decides = digit_decides }

abbrev pub blank_kind : Kind
blank_kind = record { test = is_blank; Is = IsBlank; decides = blank_decides }

stops : (k : Kind) (bs : List ℕ) → BeginsWithNo k.Is bs → take_while k.test bs ≡ []
stops k [] h = refl
stops k (b ∷ bs) h = take_while-cons k.test b bs ∙ rw (false_from_ne_true (k.test b) (λ e. h ((k.decides b).0 e))) refl

-- a run that nothing goes on is taken whole
pub run_taken : (k : Kind) (s behind : List ℕ) → AllByRecursion k.Is s → BeginsWithNo k.Is behind → take_while k.test (s ++ behind) ≡ s
run_taken k [] behind all h = stops k behind h
run_taken k (b ∷ bs) behind all h =
    take_while-cons k.test b (bs ++ behind) ∙ rw ((k.decides b).1 all.0) (ap {B = List ℕ} (λ (r : List ℕ). b ∷ r) (run_taken k bs behind all.1 h))

-- what is taken is a run that nothing goes on
pub record Run (k : Kind) (bytes : List ℕ) : Type 0 where
  pub behind : List ℕ
  pub parts : bytes ≡ take_while k.test bytes ++ behind
  pub all : AllByRecursion k.Is (take_while k.test bytes)
  pub ends : BeginsWithNo k.Is behind

run_at : (k : Kind) (b : ℕ) (bs : List ℕ) (t : Bool) → k.test b ≡ t → Run k bs → Run k (b ∷ bs)
run_at k b bs true e r = record {
  behind = r.behind;
  parts = rw (take_while-cons k.test b bs, e) (ap {B = List ℕ} (λ (x : List ℕ). b ∷ x) r.parts);
  all = rw (take_while-cons k.test b bs, e) ((k.decides b).0 e, r.all);
  ends = r.ends;
}
run_at k b bs false e r = record {
  behind = b ∷ bs;
  parts = rw (take_while-cons k.test b bs, e) refl;
  all = rw (take_while-cons k.test b bs, e) tt;
  ends = not_from_Decides (k.test b) (k.decides b) e;
}

pub run : (k : Kind) (bytes : List ℕ) → Run k bytes
run k [] = record { behind = []; parts = refl; all = tt; ends = tt }
run k (b ∷ bs) = run_at k b bs (k.test b) refl (run k bs)
