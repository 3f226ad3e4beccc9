-- The command line is a simple command, and nothing in it has a rule on another part.
use Rattle.std.proofs.Common.{◌≡◌, [], true, inl, inr, refl, subst}
use Rattle.clap.specs.Words.{HasKind, Kinds, is_simple, is_simple_and_free, kind_of}
use Rattle.clap.specs.declared.error.Error.{Error}
use Rattle.clap.specs.declared.error.kind.ErrorKind.TheVariants as kind
use Rattle.clap.proofs.OnLiterals.{clap_on_literals}
use Rattle.gd_words.specs.CommandLine.{command_line}

pub line_is_simple : is_simple command_line ≡ true
unfolding clap_on_literals
line_is_simple = refl

pub line_is_free : is_simple_and_free command_line ≡ true
unfolding clap_on_literals
line_is_free = refl

-- an error where there is no fault is for want of memory
pub kind_of_none : (e : Error) (kinds : Kinds) → kinds ≡ [] → HasKind kinds e → kind_of e ≡ kind.OutOfMemory
kind_of_none e kinds none has = go (subst (λ ks. HasKind ks e) none has)
  where
    go : HasKind [] e → kind_of e ≡ kind.OutOfMemory
    go (inl memory) = memory
    go (inr other) = absurd other
