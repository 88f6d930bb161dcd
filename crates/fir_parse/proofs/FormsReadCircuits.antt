-- Tokens that spell a circuit are read as that circuit.
use Rattle.std.proofs.Common.{◌≡◌, ℕ, true, not, ◌⊎◌, List, [], ◌∷◌, codes, Ok, refl, ap, ◌∙◌, inl, inr}
use Rattle.fir_ast.specs.declared.place.Place.{Place}
use Rattle.fir_ast.specs.Circuits.{ModuleTree, CircuitTree}
use Rattle.fir_parse.specs.declared.lexeme.Mark.TheVariants.{Colon, Dot}
use Rattle.fir_parse.specs.Lexemes.{Terminal, word, annotations, line_end, level_closes}
use Rattle.fir_parse.specs.Pieces.{Either, Nothing, LineEnd, Closes, Annotations}
use Rattle.fir_parse.specs.CircuitForms.{IsModule, AreModules, AreSomeModules, IsVersion, IsSpelled}
use Rattle.fir_parse.specs.working.Symbols.{a_text, some_annotations, first_module, more_modules, a_word}
use Rattle.fir_parse.specs.working.States.{State, done, wants}
use Rattle.fir_parse.specs.working.CircuitRules.{is_known_version, one_module, module_rest, circuit_rest, version_rest}
use Rattle.fir_parse.specs.working.Reading.{read_on, whole}
use Rattle.fir_parse.proofs.Limiting.{limit_kept}
use Rattle.fir_parse.proofs.FormsReadPieces.{takes_token, leaves_token, skips_at, reads_same, read_sign, read_word, read_name, read_natural, read_line_end, read_opening}
use Rattle.fir_parse.proofs.FormsReadDeclarations.{NoLevel, no_level_at}
use Rattle.fir_parse.proofs.FormsReadPorts.{read_body}
use Rattle.fir_parse.specs.Limits.{Limits}

known_of : (n : ℕ) → (n ≡ 1) ⊎ (n ≡ 2) → is_known_version n ≡ true
known_of n (inl e) = rw e refl
known_of n (inr e) = rw e refl

module _ (limits : Limits) where
  -- behind the word `module`
  read_module : (m : ModuleTree) (a z : List Terminal) (x : IsModule limits m a z) → NoLevel limits z → (end : Place) (k : ModuleTree → State) → read_on limits end (one_module m.place k) x.0 ≡ read_on limits end (k m) z
  read_module m a z (m1, w, (m2, n, (m3, c, (m4, l, b)))) h end k =
      read_name limits m.named m1 m2 n end _ ∙ read_sign limits Colon m2 m3 c end _ ∙ read_line_end limits m3 m4 l end _ ∙ read_body limits m.ports m.body m4 z b h end _

  modules_begin : (ms : List ModuleTree) (a m z : List Terminal) → AreModules limits ms a m → Closes m z → NoLevel limits a
  modules_begin [] a m z x (p, e) = no_level_at limits level_closes p a z (x ∙ e) refl
  modules_begin (n ∷ ms) a m z (c, (m1, e, x), y) l = no_level_at limits (word (codes "module")) n.place a m1 e refl

  pub read_more_modules : (ms : List ModuleTree) (a m z : List Terminal) → AreModules limits ms a m → Closes m z → (end : Place) (k : List ModuleTree → State) → read_on limits end (wants more_modules k) a ≡ read_on limits end (k ms) z
  read_more_modules [] a m z x (p, e) end k = takes_token limits more_modules (λ f. f []) level_closes p a z (x ∙ e) refl end k
  read_more_modules (n ∷ ms) a m z (c, (m1, e, x), y) l end k =
      takes_token limits more_modules (λ f. module_rest n.place f) (word (codes "module")) n.place a m1 e refl end k
      ∙ read_module n a c (m1, e, x) (modules_begin ms c m z y l) end (λ x. wants more_modules (λ xs. k (x ∷ xs))) ∙ read_more_modules ms c m z y l end _

  pub read_modules : (ms : List ModuleTree) (a m z : List Terminal) → AreSomeModules limits ms a m → Closes m z → (end : Place) (k : List ModuleTree → State) → read_on limits end (wants first_module k) a ≡ read_on limits end (k ms) z
  read_modules [] a m z x l end k = absurd x
  read_modules (n ∷ ms) a m z (c, (m1, e, x), y) l end k =
      takes_token limits first_module (λ f. module_rest n.place f) (word (codes "module")) n.place a m1 e refl end k
      ∙ read_module n a c (m1, e, x) (modules_begin ms c m z y l) end (λ x. wants more_modules (λ xs. k (x ∷ xs))) ∙ read_more_modules ms c m z y l end _

  read_annotations : (a m b : List Terminal) → Either Nothing Annotations a m → LineEnd m b → (end : Place) (k : Unit {0} → State) → read_on limits end (wants some_annotations k) a ≡ read_on limits end (k tt) m
  read_annotations a m b (inl e) (p, x) end k = reads_same limits (wants some_annotations k) a m e end ∙ leaves_token limits some_annotations tt m (skips_at limits some_annotations tt line_end p m b x refl) end k
  read_annotations a m b (inr (p, e)) l end k = takes_token limits some_annotations (λ f. f tt) annotations p a m e refl end k

  -- the version
  read_version : (a b : List Terminal) → IsVersion limits a b → (end : Place) (k : CircuitTree → State) → read_on limits end (wants a_text k) a ≡ read_on limits end (wants (a_word (codes "circuit")) (λ t. circuit_rest k)) b
  read_version a b (major, minor, patch, (m1, (p, e), (m2, w, (m3, (q1, i1), (n3, (known, same), (m4, d1, (m5, (q2, i2), (m6, d2, (m7, (q3, i3), l))))))))) end k =
      takes_token limits a_text (λ f. version_rest f) (word (codes "FIRRTL")) p a m1 e refl end k ∙ read_word limits (codes "version") m1 m2 w end _ ∙ read_natural limits major q1 m2 m3 i1 end _
      ∙ limit_kept limits _ _ _ end m3 (λ c. ap not (known_of major (known c))) ∙ reads_same limits _ m3 n3 same end ∙ read_sign limits Dot n3 m4 d1 end _ ∙ read_natural limits minor q2 m4 m5 i2 end _ ∙ read_sign limits Dot m5 m6 d2 end _ ∙ read_natural limits patch q3 m6 m7 i3 end _ ∙ read_line_end limits m7 b l end _

  at_the_end : (end : Place) (c : CircuitTree) → read_on limits end (done c) [] ≡ Ok c
  unfolding read_on
  at_the_end end c = refl

  pub forms_read : (end : Place) (ts : List Terminal) (c : CircuitTree) → IsSpelled limits c ts → read_on limits end whole ts ≡ Ok c
  forms_read end ts c (m0, v, (m1, w, (m2, n, (m3, s, (m4, x, (m5, l, (m6, o, (m7, y, z)))))))) =
      by_version v ∙ read_name limits c.named m1 m2 n end _ ∙ read_sign limits Colon m2 m3 s end _ ∙ read_annotations m3 m4 m5 x l end _ ∙ read_line_end limits m4 m5 l end _
      ∙ read_opening limits m5 m6 o end _ ∙ read_modules c.modules m6 m7 [] y z end _ ∙ at_the_end end c
    where
      by_version : Either Nothing (IsVersion limits) ts m0 → read_on limits end whole ts ≡ read_on limits end (circuit_rest done) m1
      by_version (inl e) = reads_same limits whole ts m0 e end ∙ takes_token limits a_text (λ f. circuit_rest f) (word (codes "circuit")) w.0 m0 m1 w.1 refl end done
      by_version (inr x) = read_version ts m0 x end done ∙ read_word limits (codes "circuit") m0 m1 w end _
