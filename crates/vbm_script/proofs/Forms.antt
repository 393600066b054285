-- Words of a form.
use Rattle.std.proofs.Common.{◌≡◌, ℕ, Bool, true, false, List, ◌∷◌, Result, Err, sym, subst, ◌∙◌}
use Rattle.std.specs.Result.{IsErrAnd}
use Rattle.std.proofs.lemmas.Result.{err_from_is_err_and}
use Rattle.vbm_lines.specs.Lines.{Words}
use Rattle.vbm_world.specs.declared.command.Command.{Command}
use Rattle.vbm_world.specs.Texts.{IsForm}
use Rattle.vbm_world.proofs.Verbs.{Verb, verb_text, Arguments, command_of, of_verb}
use Rattle.vbm_script.specs.declared.parsing.ParseFault.{ParseFault}
use Rattle.vbm_script.specs.declared.parsing.ParseFault.TheVariants.{BadLine, NoMemory}
use Rattle.vbm_script.specs.Parses.{Reads}

-- memory was wanting where something is meant
pub wanting : {A : Type 0} (Means : A → Type 0) (a : A) (fault : ParseFault) (result : Result A ParseFault) → Means a → fault ≡ NoMemory
    → IsErrAnd result (λ e. e ≡ fault) → Reads Means result
wanting {A} Means a fault result means none from =
    let p = err_from_is_err_and result from in
    let refused : result ≡ Err NoMemory = p.1 ∙ cc (p.2, none) in
    subst (Reads Means) (sym refused) (a, means)

-- a test failed and holds
pub not_true : {b : Bool} → b ≡ false → b ≡ true → ⊥
not_true fails holds = cc

-- what stands behind the first of a list
pub behind_first : {a b : ℕ} {xs ys : List ℕ} → a ∷ xs ≡ b ∷ ys → xs ≡ ys
behind_first e = cc

-- what was wrong with a part is wrong with the whole
pub passes : {A B : Type 0} (Part : A → Type 0) (Whole : B → Type 0) (fault : ParseFault) → ((a : A) → Part a → (b : B) × Whole b)
    → ((b : B) → Whole b → (a : A) × Part a) → Reads Part (Err fault) → Reads Whole (Err fault)
passes Part Whole BadLine to from none = λ b whole. let k = from b whole in none k.0 k.1
passes Part Whole NoMemory to from some = to some.0 some.1

-- a form of a verb has the verb's arguments
pub formed_as : (verb : Verb) (tail : Words) (c : Command) → IsForm (verb_text verb ∷ tail) c
    → (a : Arguments verb) × IsForm (verb_text verb ∷ tail) (command_of verb a)
formed_as verb tail c form =
    let k = of_verb verb tail c (sym form.is) in
    (k.0, subst (IsForm (verb_text verb ∷ tail)) (sym k.1) form)
