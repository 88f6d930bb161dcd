-- What a form is found to be: what holds of it, where the like holds of an operand.
use Rattle.std.proofs.Common.{Bool, true, false, Option, Some, None, Result, Ok, Err}
use Rattle.std.specs.Prelude.{IfSome, IfOk, if◌then◌else◌, option_map}
use Rattle.fir_ast.specs.Faults.{Fault}
use Rattle.fir_meaning.specs.Checked.{answered, answer_on, joined}

pub mapped_holds : {A B : Type 0} → (P : A → Type 0) (Q : B → Type 0) (f : A → B) (o : Option A) → IfSome o P → ((x : A) → P x → Q (f x))
    → IfSome (option_map f o) Q
mapped_holds P Q f None h k = tt
mapped_holds P Q f (Some x) h k = k x h

answered_holds : {B : Type 0} → (Q : B → Type 0) (r : Result B Fault) → IfOk r Q → IfSome (answered r).has Q
answered_holds Q (Ok x) h = h
answered_holds Q (Err f) h = tt

pub after_holds : {A B : Type 0} → (P : A → Type 0) (Q : B → Type 0) (own : A → Result B Fault) (o : Option A) → IfSome o P
    → ((x : A) → P x → IfOk (own x) Q) → IfSome (answer_on o own).has Q
after_holds P Q own None h k = tt
after_holds P Q own (Some x) h k = answered_holds Q (own x) (k x h)

pub left_holds : {A B C : Type 0} → (P : A → Type 0) (Q : C → Type 0) (f : A → B → C) (o : Option A) (p : Option B) → IfSome o P
    → ((x : A) (y : B) → P x → Q (f x y)) → IfSome (joined f o p) Q
left_holds P Q f None p h k = tt
left_holds P Q f (Some x) None h k = tt
left_holds P Q f (Some x) (Some y) h k = k x y h

pub right_holds : {A B C : Type 0} → (P : B → Type 0) (Q : C → Type 0) (f : A → B → C) (o : Option A) (p : Option B) → IfSome p P
    → ((x : A) (y : B) → P y → Q (f x y)) → IfSome (joined f o p) Q
right_holds P Q f None p h k = tt
right_holds P Q f (Some x) None h k = tt
right_holds P Q f (Some x) (Some y) h k = k x y h

pub ok_either : {A : Type 0} → (P : A → Type 0) (b : Bool) (u v : Result A Fault) → IfOk u P → IfOk v P → IfOk (if b then u else v) P
ok_either P true u v h k = h
ok_either P false u v h k = k
