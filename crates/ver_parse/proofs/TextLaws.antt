-- A text spells a tree or shows one fault.
use Rattle.std.proofs.Common.{◌≡◌, ◌⊎◌, inl, inr, ℕ, List, [], ◌∷◌, ◌++◌, Option, Some, None, refl, sym, ap, ◌∙◌, subst, arith}
use Rattle.std.proofs.lemmas.List.{append-nil}
use Rattle.ver_ast.specs.declared.place.VPlace.{VPlace}
use Rattle.ver_ast.specs.declared.tree.Verilog.{Verilog}
use Rattle.ver_ast.specs.Pieces.{PlacedToken, place_after, HasTokens}
use Rattle.ver_ast.specs.working.Laws.{TokensHaveOnePlace}
use Rattle.ver_fault.specs.Faults.{VFault}
use Rattle.ver_lex.specs.declared.bad_byte.BadByte.{BadByte}
use Rattle.ver_lex.specs.Lexed.{StopsAt}
use Rattle.ver_lex.specs.working.Laws.{HasTokensOrStops, NeverBoth, StopsOnce}
use Rattle.ver_parse.specs.Fronts.{AreTokensOf, IsText, IsFront}
use Rattle.ver_parse.specs.Depths.{IsShallow}
use Rattle.ver_parse.specs.TextFaults.{byte_fault, syntax_fault, depth_fault, IsTokenFault, ShowsUnexpected, TokensFault, TextFault}
use Rattle.ver_parse.specs.working.Laws.{SpellsTree}
use Rattle.ver_parse.specs.working.Reading.{Outcome, complete, ends, unexpected, too_deep, read_on, whole}
use Rattle.ver_parse.proofs.Begins.{begins, all_read}
use Rattle.ver_parse.proofs.FirstFaults.{unexpected_at, too_deep_at, ends_at}
use Rattle.ver_parse.proofs.OneFault.{one_fault, no_tree}
use Rattle.ver_parse.proofs.Passes.{passes}
use Rattle.ver_parse.proofs.Shallow.{shallow}
use Rattle.ver_parse.proofs.Stopping.{Stopped, behind_all, at_token, at_brace, stopped}

pub one_text_fault : TokensHaveOnePlace → NeverBoth → StopsOnce → (bytes : List ℕ) (f g : VFault) → TextFault bytes f → TextFault bytes g → f ≡ g
one_text_fault places never once bytes f g (inl (ts, h, p)) (inl (us, k, q)) =
    one_fault (place_after bytes) ts None f g p (subst (λ l. TokensFault (place_after bytes) l None g) (sym (places bytes ts us h k)) q)
one_text_fault places never once bytes f g (inl (ts, h, p)) (inr (us, bad, k, q)) = absurd (never bytes ts us bad h k)
one_text_fault places never once bytes f g (inr (us, bad, k, q)) (inl (ts, h, p)) = absurd (never bytes ts us bad h k)
one_text_fault places never once bytes f g (inr (ts, bad, h, p)) (inr (us, other, k, q)) =
    let same = once bytes ts us bad other h k in
    one_fault (place_after bytes) ts (Some bad) f g p
    (subst (λ b. TokensFault (place_after bytes) ts (Some b) g) (sym same.1) (subst (λ l. TokensFault (place_after bytes) l (Some other) g) (sym same.0) q))

pub no_text_tree : TokensHaveOnePlace → NeverBoth → (bytes : List ℕ) (v : Verilog) (f : VFault) → SpellsTree bytes v → TextFault bytes f → ⊥
no_text_tree places never bytes v f s (inl (ts, h, p)) =
    let same : s.tokens ≡ ts = places bytes s.tokens ts s.of_text h in
    no_tree (place_after bytes) s.tokens f v s.spells s.shallow (subst (λ l. TokensFault (place_after bytes) l None f) (sym same) p)
no_text_tree places never bytes v f s (inr (ts, bad, h, p)) = never bytes s.tokens ts bad s.of_text h

-- ---- a tree or a fault

-- what tokens are: those of a tree, or they end too early, or one of them shows a fault
data Read (ts : List PlacedToken) : Type 0 where
  a_text : (v : Verilog) → AreTokensOf v ts → IsShallow ts → Read ts
  ends_early : ((end : VPlace) → ShowsUnexpected end ts [] (syntax_fault end)) → Read ts
  faulty : (f : VFault) → IsTokenFault ts f → Read ts

text_read : (ts : List PlacedToken) → read_on 0 whole ts ≡ complete → Stopped 0 whole ts complete → Read ts
text_read ts e (behind_all [] f a l) = let t : IsText ts = all_read ts f in a_text t.0 t.1 (shallow ts whole e)
text_read ts e (behind_all (s ∷ last) f a l) = absurd (cc)
text_read ts e (at_token front t back last p f b a l) = absurd (cc)
text_read ts e (at_brace front t back last n p f b i m a l) = absurd (cc)

read_by : (ts : List PlacedToken) (o : Outcome) → read_on 0 whole ts ≡ o → Stopped 0 whole ts o → Read ts
read_by ts complete e s = text_read ts e s
read_by ts ends e s = ends_early (λ end. ends_at passes begins end ts s)
read_by ts (unexpected p) e s = faulty (syntax_fault p) (unexpected_at passes begins ts p s)
read_by ts (too_deep p) e s = faulty (depth_fault p) (too_deep_at begins ts p s)

read_all : (ts : List PlacedToken) → Read ts
read_all ts = read_by ts (read_on 0 whole ts) refl (stopped ts 0 whole (read_on 0 whole ts) refl (omega arith))

abbrev pub TreeOrFault : List ℕ → Type 0
TreeOrFault bytes = ((v : Verilog) × SpellsTree bytes v) ⊎ ((f : VFault) × TextFault bytes f)

of_tokens : (bytes : List ℕ) (ts : List PlacedToken) → HasTokens bytes ts → Read ts → TreeOrFault bytes
of_tokens bytes ts h (a_text v s low) = inl (v, record { tokens = ts; of_text = h; spells = s; shallow = low })
of_tokens bytes ts h (ends_early shows) = inr (syntax_fault (place_after bytes), inl (ts, h, inr (shows (place_after bytes))))
of_tokens bytes ts h (faulty f shows) = inr (f, inl (ts, h, inl shows))

shows_byte : (end : VPlace) (ts : List PlacedToken) (bad : BadByte) → Read ts → (f : VFault) × TokensFault end ts (Some bad) f
shows_byte end ts bad (a_text v s low) = (byte_fault bad, inr (refl, ([], subst IsText (sym (append-nil ts)) (v, s)), low))
shows_byte end ts bad (ends_early shows) = let x = shows end in (byte_fault bad, inr (refl, x.begins, x.shallow))
shows_byte end ts bad (faulty f shows) = (f, inl shows)

of_text : (bytes : List ℕ) → ((ts : List PlacedToken) × HasTokens bytes ts) ⊎ ((ts : List PlacedToken) × (bad : BadByte) × StopsAt bytes ts bad) → TreeOrFault bytes
of_text bytes (inl (ts, h)) = of_tokens bytes ts h (read_all ts)
of_text bytes (inr (ts, bad, h)) = let x = shows_byte (place_after bytes) ts bad (read_all ts) in inr (x.0, inr (ts, bad, h, x.1))

pub tree_or_fault : HasTokensOrStops → (bytes : List ℕ) → TreeOrFault bytes
tree_or_fault either bytes = of_text bytes (either bytes)
