-- What is read behind what was read before, in a loop or a last call.
use Rattle.std.proofs.Common.{◌≡◌, List, [], ◌∷◌, ◌++◌, map, Result, Ok, Err, refl, sym, ap, ◌∙◌}
use Rattle.std.proofs.Math.Path.{fun_ext}
use Rattle.fir_ast.specs.declared.place.Place.{Place}
use Rattle.fir_parse.specs.declared.lexeme.Lexeme.TheVariants.{End}
use Rattle.fir_parse.specs.declared.parser.Next.{Next}
use Rattle.fir_parse.specs.declared.stop.Stop.{Stop}
use Rattle.fir_parse.specs.working.AtHand.{IsAtHand, stop_at}
use Rattle.fir_parse.specs.Lexemes.{Terminal}
use Rattle.fir_parse.specs.working.Reading.{read_on}
use Rattle.fir_parse.specs.working.Reads.{Plan, Stops, Reads, Leads}
use Rattle.fir_parse.specs.working.States.{State, wants}
use Rattle.fir_parse.specs.working.Symbols.{Sym}
use Rattle.fir_parse.proofs.Plans.{ends_here, found, stops_behind}
use Rattle.fir_parse.specs.Limits.{everywhere}

-- nothing is there, by what the code stops with
pub text_ended : (s : Sym) (a : List Terminal) (n : Next) (e : Stop) → IsAtHand a n → n.lexeme ≡ End → e ≡ stop_at n.lexeme n.place → Stops (wants s) a e
text_ended s a n e h i g = rw g (rw i (ends_here s a (found a n End h i)))

-- what was read leads on to a last part, whose tree the text goes on behind
pub leads_behind : {A T U : Type 0} (P : Plan T) (next : A → Plan T) (Q : Plan U) (view : A → U) (a b c : List Terminal) (r : Result A Stop) (f : (T → State) → U → State) → ((x : A) (k : T → State) → f k (view x) ≡ next x k) → ((end : Place) (k : T → State) → read_on everywhere end (P k) a ≡ read_on everywhere end (Q (f k)) b) → Reads Q view b c r → Leads P next a c r
leads_behind P next Q view a b c (Ok x) f e g h = λ end k. g end k ∙ h end (f k) ∙ ap (λ s. read_on everywhere end s c) (e x k)
leads_behind P next Q view a b c (Err s) f e g h = stops_behind P Q a b s f g h

pub one_more : {A B : Type 0} (f : A → B) (xs : List A) (x : A) (ns : List B) → map f (xs ++ x ∷ []) ++ ns ≡ map f xs ++ f x ∷ ns
one_more f [] x ns = refl
one_more f (y ∷ ys) x ns = ap (λ l. f y ∷ l) (one_more f ys x ns)

-- one part more is put behind those that were read
pub pushed : {A B : Type 0} (g : Plan (List B)) (f : A → B) (xs ys : List A) (x : A) → ys ≡ xs ++ x ∷ [] → (end : Place) (k : List B → State) (ts : List Terminal) → read_on everywhere end (g (λ ns. k (map f xs ++ f x ∷ ns))) ts ≡ read_on everywhere end (g (λ ns. k (map f ys ++ ns))) ts
pushed g f xs ys x e end k ts = rw e (ap (λ h. read_on everywhere end (g h) ts) (fun_ext (λ ns. ap k (sym (one_more f xs x ns)))))
