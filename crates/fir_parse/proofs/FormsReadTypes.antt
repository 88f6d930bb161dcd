-- Tokens that spell a type are read as that type.
use Rattle.std.proofs.Common.{◌≡◌, ℕ, ◌+◌, Bool, true, false, List, [], ◌∷◌, Option, Some, None, codes, refl, sym, ap, ◌∙◌, subst, inl, inr, if◌then◌else◌}
use Rattle.std.specs.Str.{bytes_eq}
use Rattle.std.proofs.lemmas.Slice.Eq.{bytes_eq-Decides}
use Rattle.fir_ast.specs.declared.place.Place.{Place}
use Rattle.fir_ast.specs.Types.{DataType, uint, sint, clock, reset, async_reset, bundle, vector, Fields, no_fields, field}
use Rattle.fir_parse.specs.declared.lexeme.Mark.TheVariants.{Less, Greater, OpenSquare, CloseSquare, OpenCurly, CloseCurly, Comma, Colon}
use Rattle.fir_parse.specs.Lexemes.{Lexeme, Terminal, word, integer, mark}
use Rattle.fir_parse.specs.Numbers.{has_sign}
use Rattle.fir_parse.specs.Pieces.{◌▸◌, At, IsNextAt, Sign, FieldName, TokenAt}
use Rattle.fir_parse.specs.TypeForms.{IsWidth, IsFlip, IsType, AreFields, AreMoreFields}
use Rattle.fir_parse.specs.working.Symbols.{TypeTree, FieldTree, FieldsTree, a_width, a_type, dimensions, fields, more_fields, a_field, behind_flip}
use Rattle.fir_parse.specs.working.States.{State, wants, Step, takes, without, refuses, unsupported}
use Rattle.fir_parse.specs.working.TypeRules.{type_at, width_step, field_step, then_more, with_field, field_rest, field_behind_name}
use Rattle.fir_parse.specs.working.Reading.{Outcome, read_on, goes_on}
use Rattle.fir_parse.proofs.Completions.{Skips, TailEnds, goes_on_tail}
use Rattle.fir_parse.proofs.CompleteParts.{dimensions_skip}
use Rattle.fir_parse.proofs.FormsReadPieces.{token_next, takes_token, leaves_token, skips_at, tail_ends_at, reads_same, read_sign, read_natural, read_opens, read_ends}
use Rattle.fir_parse.specs.Limits.{Limits}

module _ (limits : Limits) where
  width_end : (l : Lexeme) → goes_on_tail l ≡ false → width_step l ≡ without None
  width_end (mark Less) h = absurd (cc)
  width_end _ h = refl

  pub width_stays : (ts : List Terminal) → TailEnds ts → Skips a_width None ts
  width_stays [] h = h
  width_stays (t ∷ ts) h = width_end t.lexeme h

  pub read_width : (w : Option ℕ) (a b : List Terminal) → IsWidth limits w a b → Skips a_width None b → (end : Place) (k : Option ℕ → State) → read_on limits end (wants a_width k) a ≡ read_on limits end (k w) b
  read_width None a b e f end k = reads_same limits (wants a_width k) a b e end ∙ leaves_token limits a_width None b f end k
  read_width (Some n) a b (m1, (p, e), (m2, (q, i), s)) f end k = takes_token limits a_width _ (mark Less) p a m1 e refl end k ∙ read_natural limits n q m1 m2 i end _ ∙ read_sign limits Greater m2 b s end _

  -- a field's name, its colon and its type are left
  flipped_name : (d : ℕ) (p : Place) (r : Place) (n : List ℕ) (a b : List Terminal) → FieldName (record { place = p; name = n }) a b → (end : Place) (k : FieldTree → State) → read_on limits end (wants (behind_flip d r) k) a ≡ read_on limits end (field_rest d p true n k) b
  flipped_name d p r n a b (inl e) end k = takes_token limits (behind_flip d r) _ (word n) p a b e refl end k
  flipped_name d p r n a b (inr (m, (u, g), e)) end k = takes_token limits (behind_flip d r) (λ f. field_rest d p true n f) (integer n) p a b (g ∙ e) (rw u refl) end k

  -- these tokens are read as a type that begins at a place
  abbrev pub TypeRead : ℕ → Place → DataType → List Terminal → List Terminal → Type 0
  TypeRead d s t a b = (end : Place) (k : TypeTree → State) → read_on limits end (wants (a_type d) k) a ≡ read_on limits end (k (type_at s t)) b

  -- a name that may be `flip`
  plain_word : (d : ℕ) (p : Place) (n : List ℕ) (s : Place) (t : DataType) (a m c e : List Terminal) → TokenAt (word n) p a m → Sign Colon m c → TypeRead d s t c e → (b : Bool) → bytes_eq n (codes "flip") ≡ b → (end : Place) (k : FieldTree → State) → read_on limits end (wants (a_field d) k) a ≡ read_on limits end (k (record { place = p; flip = false; name = n; type_place = s; data_type = t })) e
  plain_word d p n s t a m c e x (q, y) ty true h end k =
      takes_token limits (a_field d) (λ f. wants (behind_flip d p) f) (word n) p a m x (rw h refl) end k
      ∙ takes_token limits (behind_flip d p) _ (mark Colon) q m c y refl end k
      ∙ ty end _
      ∙ ap (λ w. read_on limits end (k (record { place = p; flip = false; name = w; type_place = s; data_type = t })) e) (sym ((bytes_eq-Decides n (codes "flip")).0 h))
  plain_word d p n s t a m c e x y ty false h end k =
      takes_token limits (a_field d) (λ f. field_rest d p false n f) (word n) p a m x (rw h refl) end k ∙ read_sign limits Colon m c y end _ ∙ ty end _

  read_field : (d : ℕ) (p : Place) (flip : Bool) (n : List ℕ) (s : Place) (t : DataType) (a m1 m2 m3 b : List Terminal) → IsFlip flip a m1 → FieldName (record { place = p; name = n }) m1 m2 → Sign Colon m2 m3 → TypeRead d s t m3 b → (end : Place) (k : FieldTree → State) → read_on limits end (wants (a_field d) k) a ≡ read_on limits end (k (record { place = p; flip = flip; name = n; type_place = s; data_type = t })) b
  read_field d p true n s t a m1 m2 m3 b (r, e) name colon ty end k =
      takes_token limits (a_field d) (λ f. wants (behind_flip d r) f) (word (codes "flip")) r a m1 e refl end k ∙ flipped_name d p r n m1 m2 name end k ∙ read_sign limits Colon m2 m3 colon end _ ∙ ty end _
  read_field d p false n s t a m1 m2 m3 b g (inl e) colon ty end k = plain_word d p n s t a m2 m3 b (g ∙ e) colon ty (bytes_eq n (codes "flip")) refl end k
  read_field d p false n s t a m1 m2 m3 b g (inr (m, (u, h), e)) colon ty end k =
      takes_token limits (a_field d) (λ f. field_rest d p false n f) (integer n) p a m2 (g ∙ h ∙ e) (rw u refl) end k ∙ read_sign limits Colon m2 m3 colon end _ ∙ ty end _

  -- a bundle's first field is read as a field
  abbrev NotWithout : Step FieldTree → Type 0
  NotWithout (without f) = ⊥
  NotWithout _ = Unit {0}

  not_without_if : (c : Bool) (u v : Step FieldTree) → NotWithout u → NotWithout v → NotWithout (if c then u else v)
  not_without_if true u v g h = g
  not_without_if false u v g h = h

  abbrev then_fields : ℕ → (FieldsTree → State) → FieldTree → State
  then_fields d k f = wants (more_fields d) (λ fs. k (with_field f fs))

  same_beginning : (u : Step FieldTree) (d : ℕ) (p : Place) (k : FieldsTree → State) (behind : State → Outcome) (v : FieldsTree → Outcome) (w : FieldTree → Outcome) → NotWithout u → goes_on (then_more d u) p k behind v ≡ goes_on u p (then_fields d k) behind w
  same_beginning (takes g) d p k behind v w h = refl
  same_beginning (without f) d p k behind v w h = absurd h
  same_beginning refuses d p k behind v w h = refl
  same_beginning (unsupported q x) d p k behind v w h = refl

  begins_with_word : (d : ℕ) (n : List ℕ) (p : Place) (a b : List Terminal) → TokenAt (word n) p a b → (end : Place) (k : FieldsTree → State) → read_on limits end (wants (fields d) k) a ≡ read_on limits end (wants (a_field d) (then_fields d k)) a
  unfolding read_on
  begins_with_word d n p a b e end k =
      rw e (same_beginning (field_step d (word n) p) d p k _ _ _ (not_without_if (bytes_eq n (codes "flip")) (takes (λ f. wants (behind_flip d p) f)) (field_behind_name d p false n) tt tt))

  begins_with_digits : (d : ℕ) (n : List ℕ) (p : Place) (a b : List Terminal) → TokenAt (integer n) p a b → (end : Place) (k : FieldsTree → State) → read_on limits end (wants (fields d) k) a ≡ read_on limits end (wants (a_field d) (then_fields d k)) a
  unfolding read_on
  begins_with_digits d n p a b e end k =
      rw e (same_beginning (field_step d (integer n) p) d p k _ _ _ (not_without_if (has_sign n) refuses (field_behind_name d p false n) tt tt))

  begins_field : (d : ℕ) (p : Place) (flip : Bool) (n : List ℕ) (a m b : List Terminal) → IsFlip flip a m → FieldName (record { place = p; name = n }) m b → (end : Place) (k : FieldsTree → State) → read_on limits end (wants (fields d) k) a ≡ read_on limits end (wants (a_field d) (then_fields d k)) a
  begins_field d p true n a m b (r, e) name end k = begins_with_word d (codes "flip") r a m e end k
  begins_field d p false n a m b g (inl e) end k = begins_with_word d n p a b (g ∙ e) end k
  begins_field d p false n a m b g (inr (c, (u, h), e)) end k = begins_with_digits d n p a b (g ∙ h ∙ e) end k

  -- a field ends before a comma or the end of its bundle
  field_ends : (d : ℕ) (fs : Fields) (q : Place) (a b c : List Terminal) → AreMoreFields limits d fs a b → TokenAt (mark CloseCurly) q b c → TailEnds a
  field_ends d no_fields q a b c x e = tail_ends_at limits (mark CloseCurly) q a c (x ∙ e) refl
  field_ends d (field p flip n s t rest) q a b c (m, (r, x), y) e = tail_ends_at limits (mark Comma) r a m x refl

  mutual
    -- as far as its dimensions, which may go on
    pub read_type : (d : ℕ) (s : Place) (t : DataType) (a b : List Terminal) → IsNextAt s a → IsType limits d t a b → Skips a_width None b → (end : Place) (k : TypeTree → State)
        → read_on limits end (wants (a_type d) k) a ≡ read_on limits end (wants (dimensions d t) (λ u. k (type_at s u))) b
    read_type d s (uint w) a b at (m, (p, e), x) f end k =
        takes_token limits (a_type d) _ (word (codes "UInt")) s a m (token_next limits s _ p a m at e) refl end k ∙ read_width w m b x f end _
    read_type d s (sint w) a b at (m, (p, e), x) f end k =
        takes_token limits (a_type d) _ (word (codes "SInt")) s a m (token_next limits s _ p a m at e) refl end k ∙ read_width w m b x f end _
    read_type d s clock a b at (p, e) f end k = takes_token limits (a_type d) _ (word (codes "Clock")) s a b (token_next limits s _ p a b at e) refl end k
    read_type d s reset a b at (p, e) f end k = takes_token limits (a_type d) _ (word (codes "Reset")) s a b (token_next limits s _ p a b at e) refl end k
    read_type d s async_reset a b at (p, e) f end k = takes_token limits (a_type d) _ (word (codes "AsyncReset")) s a b (token_next limits s _ p a b at e) refl end k
    read_type d s (bundle fs) a b at (m1, (p, e), (m2, g, (m3, x, (m4, (q, c), h)))) f end k =
        takes_token limits (a_type d) _ (mark OpenCurly) s a m1 (token_next limits s _ p a m1 at e) refl end k ∙ read_opens limits d s _ m1 m2 g end
        ∙ read_fields (d + 1) fs q m2 m3 m4 x c end _ ∙ read_ends limits _ q _ m4 b h end
    read_type d s (vector t n) a b at (m1, x, (m2, (p, e), (m3, g, (m4, (q, i), (m5, (r, c), h))))) f end k =
        read_type d s t a m1 at x (skips_at limits a_width None (mark OpenSquare) p m1 m2 e refl) end k
        ∙ takes_token limits (dimensions d t) _ (mark OpenSquare) p m1 m2 e refl end (λ u. k (type_at s u)) ∙ read_opens limits d p _ m2 m3 g end
        ∙ read_natural limits n q m3 m4 i end _ ∙ read_sign limits CloseSquare m4 m5 (r, c) end _ ∙ read_ends limits _ r _ m5 b h end

    read_fields : (d : ℕ) (fs : Fields) (q : Place) (a b c : List Terminal) → AreFields limits d fs a b → TokenAt (mark CloseCurly) q b c → (end : Place) (k : FieldsTree → State) → read_on limits end (wants (fields d) k) a ≡ read_on limits end (k (record { fields = fs; close = q })) c
    read_fields d no_fields q a b c x e end k = takes_token limits (fields d) _ (mark CloseCurly) q a c (x ∙ e) refl end k
    read_fields d (field p flip n s t rest) q a b c (m1, fl, (m2, name, (m3, colon, (m4, (m5, (at, same), ty), more)))) e end k =
        let ends : TailEnds m4 = field_ends d rest q m4 b c more e in
        begins_field d p flip n a m1 m2 fl name end k
        ∙ read_field d p flip n s t a m1 m2 m3 m4 fl name colon
        (λ x f. read_type d s t m3 m4 at (subst (λ z. IsType limits d t z m4) (sym same) ty) (width_stays m4 ends) x f ∙ leaves_token limits (dimensions d t) t m4 (dimensions_skip d t m4 ends) x _) end _
        ∙ read_more_fields d rest q m4 b c more e end _

    read_more_fields : (d : ℕ) (fs : Fields) (q : Place) (a b c : List Terminal) → AreMoreFields limits d fs a b → TokenAt (mark CloseCurly) q b c → (end : Place) (k : FieldsTree → State) → read_on limits end (wants (more_fields d) k) a ≡ read_on limits end (k (record { fields = fs; close = q })) c
    read_more_fields d no_fields q a b c x e end k = takes_token limits (more_fields d) _ (mark CloseCurly) q a c (x ∙ e) refl end k
    read_more_fields d (field p flip n s t rest) q a b c (m, (r, y), (m1, fl, (m2, name, (m3, colon, (m4, (m5, (at, same), ty), more))))) e end k =
        let ends : TailEnds m4 = field_ends d rest q m4 b c more e in
        takes_token limits (more_fields d) _ (mark Comma) r a m y refl end k
        ∙ read_field d p flip n s t m m1 m2 m3 m4 fl name colon
        (λ x f. read_type d s t m3 m4 at (subst (λ z. IsType limits d t z m4) (sym same) ty) (width_stays m4 ends) x f ∙ leaves_token limits (dimensions d t) t m4 (dimensions_skip d t m4 ends) x _) end _
        ∙ read_more_fields d rest q m4 b c more e end _

  -- a type that begins at a place, behind which no sign goes on with it
  pub read_whole_type : (d : ℕ) (s : Place) (t : DataType) (a b : List Terminal) → (At s ▸ IsType limits d t) a b → TailEnds b → TypeRead d s t a b
  read_whole_type d s t a b (m, (at, same), x) f end k =
      read_type d s t a b at (subst (λ z. IsType limits d t z b) (sym same) x) (width_stays b f) end k ∙ leaves_token limits (dimensions d t) t b (dimensions_skip d t b f) end _
