-- What is wrong where a token should begin is told there, and what is told there is wrong.
use Rattle.std.proofs.Common.{◌≡◌, ℕ, ◌+◌, ◌<◌, List, [], ◌∷◌, ◌++◌, length, take, Err, refl, sym, ap, ◌∙◌, inl, inr, ◌⊎◌, subst, append_assoc, length-append, take_at, arith}
use Rattle.fir_ast.specs.declared.place.Place.{Place}
use Rattle.fir_ast.specs.declared.fault.FirFault.{FirFault}
use Rattle.fir_ast.specs.declared.fault.FirFault.TheVariants as fault
use Rattle.fir_ast.specs.Faults.{Fault}
use Rattle.fir_ast.specs.working.CodeFaults.{fault_of}
use Rattle.fir_lex.specs.working.Bytes.{place_behind}
use Rattle.fir_lex.specs.working.Front.{Front, passed, bad_byte, bad_literal}
use Rattle.fir_lex.specs.working.Lexed.{Lexed}
use Rattle.fir_lex.specs.TokensOf.{place_after}
use Rattle.fir_lex.specs.TokenFaults.{BeginsTooLarge, GoesOn, IsInNoToken, IsPastAscii, FrontFault}
use Rattle.fir_lex.proofs.Way.{front_at, way_bad_byte, way_bad_literal}
use Rattle.fir_lex.proofs.FrontsTaken.{Reads}
use Rattle.fir_lex.proofs.Places.{place_on}
use Rattle.fir_lex.proofs.LineSteps.{in_line_after}
use Rattle.fir_lex.proofs.BusyBytes.{stays_on_line}
use Rattle.fir_lex.proofs.FrontsWrong.{Stray, PastAscii, Wrong}
use Rattle.fir_lex.proofs.FrontsRefused.{too_large_read, unclosed_read, past_ascii_read, stray_badly, badly_read}

-- ---- what is told is wrong

pub stray_fault : (before bytes : List ℕ) (k c : ℕ) → GoesOn bytes → front_at bytes ≡ bad_byte k c → Stray bytes k c
    → IsInNoToken before bytes (place_behind (place_after before) (take k bytes)) c
stray_fault before bytes k c goes e s =
    (s.behind, s.parts, stray_badly bytes k c goes e s, ap (λ (n : ℕ). place_behind (place_after before) (take n bytes)) s.first)

past_place : (before bytes : List ℕ) (k c : ℕ) (p : PastAscii bytes k c)
    → place_behind (place_after before) (take k bytes) ≡ place_after (before ++ 34 ∷ p.front)
past_place before bytes k c p =
    let whole : bytes ≡ (34 ∷ p.front) ++ ((c ∷ p.back) ++ 34 ∷ p.behind) = p.parts ∙ append_assoc (34 ∷ p.front) (c ∷ p.back) (34 ∷ p.behind) in
    let taken : take k bytes ≡ 34 ∷ p.front =
    ap (take k) whole ∙ take_at (34 ∷ p.front) ((c ∷ p.back) ++ 34 ∷ p.behind) k (omega (arith, p.far)) in
    ap (place_behind (place_after before)) taken ∙ sym (place_on before (34 ∷ p.front))

pub byte_found : (before bytes : List ℕ) (k c : ℕ) → GoesOn bytes → front_at bytes ≡ bad_byte k c → Wrong bytes (bad_byte k c)
    → FrontFault before bytes (fault_of (fault.Byte (place_behind (place_after before) (take k bytes)) c))
byte_found before bytes k c goes e w = inl (place_behind (place_after before) (take k bytes), c, refl, there w)
  where
    there : Wrong bytes (bad_byte k c)
        → IsInNoToken before bytes (place_behind (place_after before) (take k bytes)) c
        ⊎ IsPastAscii before bytes (place_behind (place_after before) (take k bytes)) c
    there (inl s) = inl (stray_fault before bytes k c goes e s)
    there (inr p) = inr (p.front, p.back, p.behind, p.parts, p.characters, p.one_line, p.ascii, p.past, past_place before bytes k c p)

-- ---- what is wrong is told

pub record FaultRead (before bytes : List ℕ) (f : FirFault) : Type 0 where
  pub read : Front
  pub some : 0 < length bytes
  pub reads : Reads bytes read
  pub stays : (n : ℕ) → read ≡ passed n → ⊥
  pub told : (levels : List ℕ) → in_line_after levels before bytes ≡ Err f

byte_read : (before bytes : List ℕ) (k c : ℕ) (p : Place) → 0 < length bytes → Reads bytes (bad_byte k c)
    → p ≡ place_behind (place_after before) (take k bytes) → FaultRead before bytes (fault.Byte p c)
byte_read before bytes k c p some r place = record {
  read = bad_byte k c;
  some = some;
  reads = r;
  stays = λ n e. absurd (cc);
  told = λ levels. way_bad_byte levels (place_after before) bytes k c some r.0 r.1 ∙ ap {B = Lexed} (λ (q : Place). Err (fault.Byte q c)) (sym place);
}

stray_read : (before bytes : List ℕ) (p : Place) (b : ℕ) → IsInNoToken before bytes p b → FaultRead before bytes (fault.Byte p b)
stray_read before bytes p b h =
    let reads : Reads (b ∷ h.0) (bad_byte 0 b) = (stays_on_line b h.0 h.2.0, badly_read b h.0 h.2) in
    subst (λ (x : List ℕ). FaultRead before x (fault.Byte p b)) (sym h.1) (byte_read before (b ∷ h.0) 0 b p (omega arith) reads h.3)

past_read : (before bytes : List ℕ) (p : Place) (b : ℕ) → IsPastAscii before bytes p b → FaultRead before bytes (fault.Byte p b)
past_read before bytes p b h =
    let past : PastAscii bytes (length h.0 + 1) b = record {
      front = h.0;
      back = h.1;
      behind = h.2;
      parts = h.3;
      far = refl;
      characters = h.4;
      one_line = h.5;
      ascii = h.6;
      past = h.7;
    } in
    byte_read before bytes (length h.0 + 1) b p (omega (arith, ap length h.3)) (past_ascii_read bytes (length h.0 + 1) b past)
    (h.8 ∙ sym (past_place before bytes (length h.0 + 1) b past))

literal_read : (before bytes : List ℕ) → 0 < length bytes → Reads bytes bad_literal → FaultRead before bytes (fault.BadLiteral (place_after before))
literal_read before bytes some r = record {
  read = bad_literal;
  some = some;
  reads = r;
  stays = λ n e. absurd (cc);
  told = λ levels. way_bad_literal levels (place_after before) bytes some r.0 r.1;
}

large_some : (bytes : List ℕ) → BeginsTooLarge bytes → 0 < length bytes
large_some bytes h = by_digits h.1 h.5 (ap length h.3)
  where
    by_digits : (digits : List ℕ) → (digits ≡ [] → ⊥) → length bytes ≡ length ((h.0 ++ digits) ++ h.2) → 0 < length bytes
    by_digits [] some long = absurd (some refl)
    by_digits (d ∷ ds) some long = omega (arith, length-append (h.0 ++ d ∷ ds) h.2, length-append h.0 (d ∷ ds))

pub fault_read : (before bytes : List ℕ) (f : Fault) → FrontFault before bytes f → (g : FirFault) × FaultRead before bytes g × (f ≡ fault_of g)
fault_read before bytes f (inl (p, b, e, inl h)) = (fault.Byte p b, stray_read before bytes p b h, e)
fault_read before bytes f (inl (p, b, e, inr h)) = (fault.Byte p b, past_read before bytes p b h, e)
fault_read before bytes f (inr (e, inl large)) =
    (fault.BadLiteral (place_after before), literal_read before bytes (large_some bytes large) (too_large_read bytes large), e)
fault_read before bytes f (inr (e, inr open_quote)) =
    (fault.BadLiteral (place_after before), literal_read before bytes (omega (arith, ap length open_quote.1)) (unclosed_read bytes open_quote), e)
