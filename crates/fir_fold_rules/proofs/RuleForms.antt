-- What each rule has to show: an equation of numbers, at the types of its operands.
use Rattle.std.proofs.Common.{◌≡◌, ℕ, ◌^◌, ◌<◌, ◌≤◌, ◌==◌, if◌then◌else◌, Ok, List, [], ◌∷◌, ◌++◌, inl, inr, slice_index, refl, sym, ap, subst, ◌∙◌}
use Rattle.std.specs.List.{AllByRecursion}
use Rattle.fir_base.specs.Lists.{EachIn, In}
use Rattle.fir_bits.specs.Operators.{no_operand, operation_value}
use Rattle.fir_bits.specs.working.Types.{typed}
use Rattle.fir_bits.specs.declared.operators.PrimOp.{PrimOp}
use Rattle.fir_bits.specs.declared.types.NumTy.{NumTy}
use Rattle.fir_bits.specs.declared.values.Num.{Num}
use Rattle.fir_net.specs.declared.reads.Read.{Read}
use Rattle.fir_net.specs.working.IsNet.{IsChoice}
use Rattle.fir_net.specs.working.Values.{IsOfType, at_width, number_of}
use Rattle.fir_fold_rules.specs.declared.operand.Operand.{Operand}
use Rattle.fir_fold_rules.specs.declared.term.Term.{Term}
use Rattle.fir_fold_rules.specs.declared.term.Term.TheVariants as term
use Rattle.fir_fold_rules.specs.working.Rules.{Equals, Holds, inner_type, known_reads}
use Rattle.fir_fold_rules.specs.working.Terms.{HasType, number_in, reads_in}
use Rattle.fir_fold_rules.proofs.Typing.{HasOne, has_one}

in_behind : (xs ys : List Read) (r : Read) → In ys r → In (xs ++ ys) r
in_behind [] ys r m = m
in_behind (x ∷ xs) ys r m = inr (in_behind xs ys r m)

in_front : (xs ys : List Read) (r : Read) → In xs r → In (xs ++ ys) r
in_front [] ys r m = absurd m
in_front (x ∷ xs) ys r (inl e) = inl e
in_front (x ∷ xs) ys r (inr m) = inr (in_front xs ys r m)

-- an operand is known, and what it reads
pub operand_read : (before : List Operand) (o : Operand) (behind : List Operand) → In (known_reads (before ++ o ∷ behind)) o.read
operand_read [] o behind = inl refl
operand_read (p ∷ before) o behind = inr (in_behind (reads_in p.term) (known_reads (before ++ o ∷ behind)) o.read (operand_read before o behind))

pub operand_inner : (before : List Operand) (o : Operand) (behind : List Operand) (x : Term) → o.term ≡ x → (r : Read) → In (reads_in x) r
    → In (known_reads (before ++ o ∷ behind)) r
operand_inner [] o behind x e r m =
    inr (in_front (reads_in o.term) (known_reads behind) r (subst (λ (y : Term). In (reads_in y) r) (sym e) m))
operand_inner (p ∷ before) o behind x e r m =
    inr (in_behind (reads_in p.term) (known_reads (before ++ o ∷ behind)) r (operand_inner before o behind x e r m))

-- a value of a type is its number at the type
pub number_is : (t : NumTy) (v : Num) → IsOfType t v → v ≡ number_of t v.value.number
number_is t v is = ap (λ (u : NumTy). number_of u v.value.number) is.is

pub number_below : (t : NumTy) (v : Num) → IsOfType t v → v.value.number < 2 ^ t.width
number_below t v is = subst (λ (u : NumTy). v.value.number < 2 ^ u.width) is.is is.bits.below

pub type_narrow : (t : NumTy) (v : Num) → IsOfType t v → t.width ≤ 128
type_narrow t v is = subst (λ (u : NumTy). u.width ≤ 128) is.is is.bits.narrow

module _ (type_at : Read → NumTy) (value : Read → Num) where
  -- the number of an operand
  abbrev pub number : Operand → ℕ
  number o = (value o.read).value.number

  -- its value, at its type
  abbrev pub value_of : Operand → Num
  value_of o = number_of o.ty (number o)

  pub literal_number : (o : Operand) (n : ℕ) → Holds type_at value o → o.term ≡ term.Number n → number o ≡ n
  literal_number o n h e = sym (subst (λ (x : Term). number_in o.ty value x ≡ number o) e h.number)

  -- what is known of an operand, by its term
  pub record Known (o : Operand) (x : Term) : Type 0 where
    pub has_type : HasType type_at o.ty x
    pub reads : AllByRecursion (λ r. IsOfType (type_at r) (value r)) (reads_in x)
    pub is : number o ≡ number_in o.ty value x
    pub inner : o.inner ≡ inner_type type_at x

  pub known_term : (o : Operand) (x : Term) → Holds type_at value o → o.term ≡ x → Known o x
  known_term o x h e = subst (Known o) e (record { has_type = h.term_type; reads = h.term_reads; is = sym h.number; inner = h.inner })

  pub is_value : (o : Operand) → Holds type_at value o → value o.read ≡ value_of o
  is_value o h = number_is o.ty (value o.read) h.is

  -- operands that read the same have the same value
  pub same_value : (a b : Operand) → Holds type_at value a → Holds type_at value b → a.read ≡ b.read → value_of b ≡ value_of a
  same_value a b x y e = sym (is_value b y) ∙ ap value (sym e) ∙ is_value a x

  pub below : (o : Operand) → Holds type_at value o → number o < 2 ^ o.ty.width
  below o h = number_below o.ty (value o.read) h.is

  module _ (t : NumTy) (op : PrimOp) where
    pub one_typed : (a : Operand) (ints : List ℕ) → Holds type_at value a → typed op (type_at a.read ∷ []) ints ≡ Ok t → HasOne op (a.ty ∷ []) ints t
    one_typed a ints h e = has_one op (a.ty ∷ []) ints t (subst (λ (u : NumTy). typed op (u ∷ []) ints ≡ Ok t) h.has_type e)

    pub two_typed : (a b : Operand) → Holds type_at value a → Holds type_at value b → typed op (type_at a.read ∷ type_at b.read ∷ []) [] ≡ Ok t
        → HasOne op (a.ty ∷ b.ty ∷ []) [] t
    two_typed a b h k e =
        has_one op (a.ty ∷ b.ty ∷ []) [] t
        (subst (λ (u : NumTy). typed op (a.ty ∷ u ∷ []) [] ≡ Ok t) k.has_type (subst (λ (u : NumTy). typed op (u ∷ type_at b.read ∷ []) [] ≡ Ok t) h.has_type e))

  pub choice_typed : (t : NumTy) (c a b : Operand) → Holds type_at value c → Holds type_at value a → Holds type_at value b
      → IsChoice t (type_at c.read ∷ type_at a.read ∷ type_at b.read ∷ []) → IsChoice t (c.ty ∷ a.ty ∷ b.ty ∷ [])
  choice_typed t c a b hc ha hb is =
      subst (λ (u : NumTy). IsChoice t (c.ty ∷ a.ty ∷ u ∷ [])) hb.has_type
      (subst (λ (u : NumTy). IsChoice t (c.ty ∷ u ∷ type_at b.read ∷ [])) ha.has_type
      (subst (λ (u : NumTy). IsChoice t (u ∷ type_at a.read ∷ type_at b.read ∷ [])) hc.has_type is))

-- the rules for an operation on two operands
module _ (op : PrimOp) (t : NumTy) (a b : Operand) (to : Term) where
  abbrev pub PairNumbers : Type 0
  PairNumbers =
      (type_at : Read → NumTy) (value : Read → Num) → Holds type_at value a → Holds type_at value b → HasType type_at t to → HasOne op (a.ty ∷ b.ty ∷ []) [] t
      → number_in t value to ≡ operation_value op t.width (value_of type_at value a) (value_of type_at value b) 0 0

  pub pair_equals : EachIn (reads_in to) (known_reads (a ∷ b ∷ [])) → PairNumbers → Equals t (a ∷ b ∷ []) (term.Pair op a.read b.read) to
  pair_equals within numbers = record {
    within = within;
    same = λ type_at value known from is.
        numbers type_at value known.0 known.1.0 is (two_typed type_at value t op a b known.0 known.1.0 from)
        ∙ ap (λ (v : Num). operation_value op t.width v (value_of type_at value b) 0 0) (sym (is_value type_at value a known.0))
        ∙ ap (λ (v : Num). operation_value op t.width (value a.read) v 0 0) (sym (is_value type_at value b known.1.0));
  }

-- and on one operand
module _ (op : PrimOp) (t : NumTy) (a : Operand) (to : Term) where
  abbrev pub SingleNumbers : List ℕ → Type 0
  SingleNumbers ints =
      (type_at : Read → NumTy) (value : Read → Num) → Holds type_at value a → HasType type_at t to → HasOne op (a.ty ∷ []) ints t
      → number_in t value to ≡ operation_value op t.width (value_of type_at value a) no_operand (slice_index ints 0) (slice_index ints 1)

  one_same : (ints : List ℕ) → SingleNumbers ints → (type_at : Read → NumTy) (value : Read → Num) → Holds type_at value a → HasType type_at t to
      → typed op (type_at a.read ∷ []) ints ≡ Ok t → number_in t value to ≡ operation_value op t.width (value a.read) no_operand (slice_index ints 0) (slice_index ints 1)
  one_same ints numbers type_at value h is from =
      numbers type_at value h is (one_typed type_at value t op a ints h from)
      ∙ ap (λ (v : Num). operation_value op t.width v no_operand (slice_index ints 0) (slice_index ints 1)) (sym (is_value type_at value a h))

  pub single_equals : EachIn (reads_in to) (known_reads (a ∷ [])) → SingleNumbers [] → Equals t (a ∷ []) (term.Single op a.read) to
  single_equals within numbers = record { within = within; same = λ type_at value known from is. one_same [] numbers type_at value known.0 is from }

  pub integer_equals : (n : ℕ) → EachIn (reads_in to) (known_reads (a ∷ [])) → SingleNumbers (n ∷ []) → Equals t (a ∷ []) (term.Integer op a.read n) to
  integer_equals n within numbers = record { within = within; same = λ type_at value known from is. one_same (n ∷ []) numbers type_at value known.0 is from }

  pub range_equals : (n m : ℕ) → EachIn (reads_in to) (known_reads (a ∷ [])) → SingleNumbers (n ∷ m ∷ []) → Equals t (a ∷ []) (term.Range op a.read n m) to
  range_equals n m within numbers = record { within = within; same = λ type_at value known from is. one_same (n ∷ m ∷ []) numbers type_at value known.0 is from }

-- and on a condition and two values
module _ (t : NumTy) (c a b : Operand) (to : Term) where
  abbrev pub MuxNumbers : Type 0
  MuxNumbers =
      (type_at : Read → NumTy) (value : Read → Num) → Holds type_at value c → Holds type_at value a → Holds type_at value b → HasType type_at t to
      → IsChoice t (c.ty ∷ a.ty ∷ b.ty ∷ [])
      → number_in t value to ≡ (if number type_at value c == 1 then at_width (value_of type_at value a) t.width else at_width (value_of type_at value b) t.width)

  pub mux_equals : EachIn (reads_in to) (known_reads (c ∷ a ∷ b ∷ [])) → MuxNumbers → Equals t (c ∷ a ∷ b ∷ []) (term.Mux c.read a.read b.read) to
  mux_equals within numbers = record {
    within = within;
    same = λ type_at value known from is.
        let choice = choice_typed type_at value t c a b known.0 known.1.0 known.1.1.0 from in
        numbers type_at value known.0 known.1.0 known.1.1.0 is choice
        ∙ ap (λ (v : Num). if number type_at value c == 1 then at_width v t.width else at_width (value_of type_at value b) t.width)
        (sym (is_value type_at value a known.1.0))
        ∙ ap (λ (v : Num). if number type_at value c == 1 then at_width (value a.read) t.width else at_width v t.width) (sym (is_value type_at value b known.1.1.0));
  }
