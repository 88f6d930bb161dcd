-- Plans that are read one part after another.
use Rattle.std.proofs.Common.{◌≡◌, ℕ, ◌<◌, ◌≤◌, Bool, List, [], ◌∷◌, drop, true, false, refl, sym, ap, ◌∙◌, Result, Ok, Err, subst}
use Rattle.std.specs.Result.{IsErrAnd}
use Rattle.std.proofs.lemmas.Bool.{lt-leb, le-leb, le-ltb, lt-ltb}
use Rattle.fir_ast.specs.declared.place.Place.{Place}
use Rattle.fir_parse.specs.declared.stop.Stop.{Stop}
use Rattle.fir_parse.specs.declared.stop.Stop.TheVariants as stop
use Rattle.fir_ast.specs.declared.fault.FirFault.TheVariants.{Syntax, Depth}
use Rattle.fir_parse.specs.declared.lexeme.Lexeme.{Lexeme as LexemeRef}
use Rattle.fir_parse.specs.declared.lexeme.Lexeme.TheVariants as code
use Rattle.fir_parse.specs.working.AtHand.{StandsFirst, IsAtHand, stop_at}
use Rattle.fir_parse.specs.declared.parser.Next.{Next}
use Rattle.fir_parse.specs.Lexemes.{Lexeme, Terminal}
use Rattle.fir_parse.specs.working.Seen.{seen}
use Rattle.fir_parse.specs.working.States.{State, Bound, bound_fault, limit, wants, takes, without, refuses, unsupported, opens, ends_form}
use Rattle.fir_parse.specs.working.Symbols.{Sym, Tree}
use Rattle.fir_parse.specs.working.Reading.{read_on, at_token, goes_on, step}
use Rattle.fir_parse.specs.working.Reads.{Plan, Stops, Gives, Reads, Leads}
use Rattle.fir_parse.specs.working.Trees.{IsUnsupported}
use Rattle.fir_parse.specs.Limits.{everywhere}

-- a token that is expected is taken
pub takes_one : (s : Sym) (x : Tree s) (l : Lexeme) (p : Place) (a b : List Terminal) → a ≡ record { lexeme = l; place = p } ∷ drop 1 a → b ≡ drop 1 a → step s l p ≡ takes (λ k. k x) → Gives (wants s) x a b
unfolding read_on
takes_one s x l p a b e f g = λ end k. rw e (rw f (ap (λ u. goes_on u p k (λ next. read_on everywhere end next (drop 1 a)) (λ y. at_token (λ l. true) (k y) (record { lexeme = l; place = p }) (λ next. read_on everywhere end next (drop 1 a)))) g))

-- a token that is not expected
pub refuses_one : (s : Sym) (l : Lexeme) (p : Place) (a : List Terminal) → a ≡ record { lexeme = l; place = p } ∷ drop 1 a → step s l p ≡ refuses → Stops (wants s) a (stop.Fault (Syntax p))
unfolding read_on
refuses_one s l p a e g = λ end k. rw e (ap (λ u. goes_on u p k (λ next. read_on everywhere end next (drop 1 a)) (λ y. at_token (λ l. true) (k y) (record { lexeme = l; place = p }) (λ next. read_on everywhere end next (drop 1 a)))) g)

-- nothing is there
pub ends_here : (s : Sym) (a : List Terminal) → a ≡ [] → Stops (wants s) a stop.AtEnd
unfolding read_on
ends_here s a e = λ end k. rw e refl

-- a token that is at hand, by its lexeme
pub stands_first : (ts : List Terminal) (l : LexemeRef) (p : Place) → ts ≡ record { lexeme = seen l; place = p } ∷ drop 1 ts → (l ≡ code.End → ⊥) → StandsFirst ts l p
stands_first ts code.End p e h = absurd (h refl)
stands_first ts _ p e h = e

-- what is at hand, by the lexeme that was found there
pub found : (a : List Terminal) (n : Next) (l : LexemeRef) → IsAtHand a n → n.lexeme ≡ l → StandsFirst a l n.place
found a n l h e = let P : LexemeRef → Type 0 = λ x. StandsFirst a x n.place in subst P e h

-- what is at hand where the text has not ended
pub stands_there : (a : List Terminal) (l : LexemeRef) (p : Place) → StandsFirst a l p → (l ≡ code.End → ⊥) → a ≡ record { lexeme = seen l; place = p } ∷ drop 1 a
stands_there a code.End p e h = absurd (h refl)
stands_there a _ p e h = e

-- a token that is at hand is not expected
pub refused : (s : Sym) (a : List Terminal) (l : LexemeRef) (p : Place) (e : Stop) → StandsFirst a l p → e ≡ stop_at l p → step s (seen l) p ≡ refuses → Stops (wants s) a e
refused s a code.End p e h g r = rw g (ends_here s a h)
refused s a l p e h g r = rw g (refuses_one s (seen l) p a h r)

-- a token that is expected is taken, and more is expected behind it
pub takes_first : (s : Sym) (g : Plan (Tree s)) (l : Lexeme) (p : Place) (a b : List Terminal) → a ≡ record { lexeme = l; place = p } ∷ drop 1 a → b ≡ drop 1 a → step s l p ≡ takes g → (end : Place) (k : Tree s → State) → read_on everywhere end (wants s k) a ≡ read_on everywhere end (g k) b
unfolding read_on
takes_first s g l p a b e f h = λ end k. rw e (rw f (ap (λ u. goes_on u p k (λ next. read_on everywhere end next (drop 1 a)) (λ y. at_token (λ l. true) (k y) (record { lexeme = l; place = p }) (λ next. read_on everywhere end next (drop 1 a)))) h))

-- nothing of what is expected is there, and the token belongs to what follows
pub stays_before : (s : Sym) (x : Tree s) (l : Lexeme) (p : Place) (a : List Terminal) → a ≡ record { lexeme = l; place = p } ∷ drop 1 a → step s l p ≡ without x → Gives (wants s) x a a
unfolding read_on
stays_before s x l p a e h = λ end k. rw e (ap (λ u. goes_on u p k (λ next. read_on everywhere end next (drop 1 a)) (λ y. at_token (λ l. true) (k y) (record { lexeme = l; place = p }) (λ next. read_on everywhere end next (drop 1 a)))) h)

-- a form that is not in the language begins there
pub unsupported_there : (s : Sym) (q : Place) (w : List ℕ) (l : Lexeme) (p : Place) (a : List Terminal) (e : Stop) → a ≡ record { lexeme = l; place = p } ∷ drop 1 a → step s l p ≡ unsupported q w → IsUnsupported q w e → Stops (wants s) a e
unfolding read_on
unsupported_there s q w l p a stop.AtEnd e h i = absurd i
unsupported_there s q w l p a (stop.Fault f) e h i = λ end k. rw e (ap (λ u. goes_on u p k (λ next. read_on everywhere end next (drop 1 a)) (λ y. at_token (λ l. true) (k y) (record { lexeme = l; place = p }) (λ next. read_on everywhere end next (drop 1 a)))) h ∙ sym (ap Err i))
unsupported_there s q w l p a stop.Memory e h i = tt

-- a limit that is kept
pub limit_kept : (b : Bool) (l : Bound) (st : State) (end : Place) (ts : List Terminal) → b ≡ false → read_on everywhere end (limit b l st) ts ≡ read_on everywhere end st ts
unfolding read_on
limit_kept b l st end [] e = rw e refl
limit_kept b l st end (t ∷ ts) e = rw e refl

-- a limit that is passed
pub limit_passed : (b : Bool) (l : Bound) (st : State) (end : Place) (ts : List Terminal) → b ≡ true → read_on everywhere end (limit b l st) ts ≡ Err (bound_fault l)
unfolding read_on
limit_passed b l st end [] e = rw e refl
limit_passed b l st end (t ∷ ts) e = rw e refl

-- what was read leads on to a part that stops
pub stops_behind : {T U : Type 0} (P : Plan T) (Q : Plan U) (a b : List Terminal) (e : Stop) (f : (T → State) → U → State) → ((end : Place) (k : T → State) → read_on everywhere end (P k) a ≡ read_on everywhere end (Q (f k)) b) → Stops Q b e → Stops P a e
stops_behind P Q a b stop.AtEnd f g h = λ end k. g end k ∙ h end (f k)
stops_behind P Q a b (stop.Fault x) f g h = λ end k. g end k ∙ h end (f k)
stops_behind P Q a b stop.Memory f g h = tt

-- what was read leads on to a last part, whose result is that of the whole
pub reads_behind : {A T : Type 0} (P Q : Plan T) (view : A → T) (a b c : List Terminal) (r : Result A Stop) → ((end : Place) (k : T → State) → read_on everywhere end (P k) a ≡ read_on everywhere end (Q k) b) → Reads Q view b c r → Reads P view a c r
reads_behind P Q view a b c (Ok x) g h = λ end k. g end k ∙ h end k
reads_behind P Q view a b c (Err e) g h = stops_behind P Q a b e (λ k. k) g h

-- what is read is made part of another tree
pub reads_mapped : {A T U : Type 0} (P : Plan U) (Q : Plan T) (f : T → U) (view : A → T) (a b c : List Terminal) (r : Result A Stop) → ((end : Place) (k : U → State) → read_on everywhere end (P k) a ≡ read_on everywhere end (Q (λ x. k (f x))) b) → Reads Q view b c r → Reads P (λ x. f (view x)) a c r
reads_mapped P Q f view a b c (Ok x) g h = λ end k. g end k ∙ h end _
reads_mapped P Q f view a b c (Err e) g h = stops_behind P Q a b e (λ k x. k (f x)) g h

-- the exit of a `?`, behind what was read; `f` is how the text goes on behind the part that stops
pub exits_behind : {A T U : Type 0} (P : Plan T) (Q : Plan U) (view : A → T) (a b c : List Terminal) (r : Result A Stop) (e : Stop) (f : (T → State) → U → State) → IsErrAnd r (λ s. s ≡ e) → ((end : Place) (k : T → State) → read_on everywhere end (P k) a ≡ read_on everywhere end (Q (f k)) b) → Stops Q b e → Reads P view a c r
exits_behind P Q view a b c (Ok x) e f i g h = absurd i
exits_behind P Q view a b c (Err s) e f i g h = rw i (stops_behind P Q a b e f g h)

-- the exit of a `?` where another part follows; `f` is how the text goes on behind the part that stops
pub exits_before : {A T U : Type 0} (P : Plan T) (Q : Plan U) (next : A → Plan T) (a b c : List Terminal) (r : Result A Stop) (e : Stop) (f : (T → State) → U → State) → IsErrAnd r (λ s. s ≡ e) → ((end : Place) (k : T → State) → read_on everywhere end (P k) a ≡ read_on everywhere end (Q (f k)) b) → Stops Q b e → Leads P next a c r
exits_before P Q next a b c (Ok x) e f i g h = absurd i
exits_before P Q next a b c (Err s) e f i g h = rw i (stops_behind P Q a b e f g h)

-- a block or bracket that opens within the limit
pub opened : (d : ℕ) (p : Place) (st : State) (end : Place) (ts : List Terminal) → d < 256 → read_on everywhere end (opens d p st) ts ≡ read_on everywhere end st ts
opened d p st end ts h = limit_kept _ _ st end ts (lt-leb 256 d h)

-- one more than may be open
pub not_opened : (d : ℕ) (p : Place) (st : State) (end : Place) (ts : List Terminal) → 256 ≤ d → read_on everywhere end (opens d p st) ts ≡ Err (Depth p)
not_opened d p st end ts h = limit_passed _ _ st end ts (le-leb 256 d h)

pub opened_too_many : {T : Type 0} (d : ℕ) (p : Place) (P : Plan T) (ts : List Terminal) (e : Stop) → (256 ≤ d) × (e ≡ stop.Fault (Depth p)) → Stops (λ k. opens d p (P k)) ts e
opened_too_many d p P ts e h = rw h.1 (λ end k. not_opened d p (P k) end ts h.0)

-- a form that ends within the limit
pub ended : (h : ℕ) (p : Place) (st : State) (end : Place) (ts : List Terminal) → h ≤ 256 → read_on everywhere end (ends_form h p st) ts ≡ read_on everywhere end st ts
ended h p st end ts le = limit_kept _ _ st end ts (le-ltb 256 h le)

-- a form that is too tall
pub not_ended : (h : ℕ) (p : Place) (st : State) (end : Place) (ts : List Terminal) → 256 < h → read_on everywhere end (ends_form h p st) ts ≡ Err (Depth p)
not_ended h p st end ts lt = limit_passed _ _ st end ts (lt-ltb 256 h lt)

pub ended_too_tall : {T : Type 0} (h : ℕ) (p : Place) (P : Plan T) (ts : List Terminal) (e : Stop) → (256 < h) × (e ≡ stop.Fault (Depth p)) → Stops (λ k. ends_form h p (P k)) ts e
ended_too_tall h p P ts e g = rw g.1 (λ end k. not_ended h p (P k) end ts g.0)

-- for a tactic, what limits do
pub ruleset limits = (opened, not_opened, ended, not_ended)
