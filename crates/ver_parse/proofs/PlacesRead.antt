-- The places of the tokens up to one more.
use Rattle.std.proofs.Common.{◌≡◌, ℕ, zero, suc, ◌+◌, ◌<◌, List, [], ◌∷◌, ◌++◌, length, take, Bool, true, false, slice_get, Option, Some, None, refl, sym, ap, ◌∙◌, add-one, arith}
use Rattle.ver_ast.specs.Pieces.{PlacedToken}
use Rattle.ver_ast.specs.Spells.{has_place, places_of}
use Rattle.ver_parse.specs.working.Whole.{place_of}

first : (t : PlacedToken) (b : Bool) → has_place t.token ≡ b → places_of (t ∷ []) ≡ place_of (Some t)
first t true e = rw e refl
first t false e = rw e refl

later : (t : PlacedToken) (us vs : List PlacedToken) (o : Option PlacedToken) (b : Bool) → has_place t.token ≡ b → places_of us ≡ places_of vs ++ place_of o → places_of (t ∷ us) ≡ places_of (t ∷ vs) ++ place_of o
later t us vs o true e h = rw e (ap (λ ps. t.place ∷ ps) h)
later t us vs o false e h = rw e h

places_suc : (ts : List PlacedToken) (i : ℕ) → i < length ts → places_of (take (suc i) ts) ≡ places_of (take i ts) ++ place_of (slice_get ts i)
places_suc [] i h = absurd (omega arith)
places_suc (t ∷ ts) zero h = first t (has_place t.token) refl
places_suc (t ∷ ts) (suc i) h = later t (take (suc i) ts) (take i ts) (slice_get ts i) (has_place t.token) refl (places_suc ts i (omega arith))

pub places_more : (ts : List PlacedToken) (i : ℕ) → i < length ts → places_of (take (i + 1) ts) ≡ places_of (take i ts) ++ place_of (slice_get ts i)
places_more ts i h = rw (add-one i) (places_suc ts i h)
