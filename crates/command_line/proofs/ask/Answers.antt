use Rattle.std.proofs.Common.{◌≡◌, None, Option, Some, arith, inl, inr, refl, rules, subst, sym}
use Rattle.std.proofs.lemmas.Result.{IfOk-weaker}
use Rattle.std.specs.Prelude.{IfOk, map}
use Rattle.clap.specs.Walk.{Text, texts}
use Rattle.clap.specs.Kinds.{IsAmong}
use Rattle.clap.specs.Words.{kind_of}
use Rattle.clap.specs.declared.error.Error.{Error}
use Rattle.clap.specs.declared.error.kind.ErrorKind.TheVariants.{OutOfMemory}
use Rattle.command_line.specs.Commands.{AsksBy, IsOneOf, IsRefusedBy, command_in, faults_in, mrjob, value_in}
use Rattle.command_line.proofs.Mrjob.{faulted, found_named, found_value, named_in, unfaulted}
use Rattle.command_line.proofs.ask.Goals as goal

pub ask_by_name-requires : goal.ask_by_name-requires
ask_by_name-requires c =
    subst (λ (name : Option Text). IsOneOf name (map (λ s. s.name) mrjob.subs)) (sym c.in-Some.ensures.name)
    (found_named c.in-Ok.commands _ c.in-Ok.ensures c.in-Ok-try_get_matches_from.matches
    c.in-Ok-try_get_matches_from.ensures.matches c.in-Ok-try_get_matches_from.ensures.kinds)

pub returns-in-Some : goal.returns-in-Some
returns-in-Some c =
    let words = texts c.args.words.now in
    let found = found_value c.in-Ok.commands _ c.in-Ok.ensures c.in-Ok-try_get_matches_from.matches
    c.in-Ok-try_get_matches_from.ensures.matches c.in-Some.options.now c.in-Some.ensures.rows in
    let named : (name : Text) → c.in-Some.name.now ≡ name → command_in words ≡ Some name =
    λ name is. named_in c.in-Ok.commands _ c.in-Ok.ensures c.in-Ok-try_get_matches_from.matches
    c.in-Ok-try_get_matches_from.ensures.matches _ name c.in-Some.ensures.name is in
    record {
      command = IfOk-weaker c.ask_by_name.result _ _ (λ ask is. named _ is) c.ask_by_name.ensures.command;
      options = subst (λ (text : Text → Option Text). IfOk c.ask_by_name.result (AsksBy text))
          (λ i id. found id i) c.ask_by_name.ensures.options;
      ok = λ ok. unfaulted c.in-Ok.commands _ c.in-Ok.ensures c.in-Ok-try_get_matches_from.ensures.kinds;
      fault = λ error is.
          let none = c.ask_by_name.ensures.fault error is in
          inr (
            none.0,
            subst (λ (name : Option Text). IsRefusedBy name (λ id. value_in id words)) (sym (named _ refl))
                (subst (λ (text : Text → Option Text). IsRefusedBy (Some c.in-Some.name.now) text)
                (λ i id. found id i) none.1),
          );
    }

pub returns-in-Err-2-clause-fault : goal.returns-in-Err-2-clause-fault
returns-in-Err-2-clause-fault c error same =
    let is : c.in-Err-2.error ≡ error = cc in
    let other : kind_of c.in-Err-2.error ≡ OutOfMemory → ⊥ = λ memory. search rules in
    inl (subst (λ (e : Error). IsAmong (kind_of e) (faults_in (texts c.args.words.now))) is
    (faulted c.in-Ok.commands _ c.in-Ok.ensures c.in-Err-2.error c.in-Err-2.ensures.kinds other))

pub unreachable-requires : goal.unreachable-requires
unreachable-requires c =
    let met = found_named c.in-Ok.commands _ c.in-Ok.ensures c.in-Ok-try_get_matches_from.matches
    c.in-Ok-try_get_matches_from.ensures.matches c.in-Ok-try_get_matches_from.ensures.kinds in
    let none = c.in_default-subcommand.ensures.name in
    let no : IsOneOf None (map (λ s. s.name) mrjob.subs) = rw (sym none) at met in
    grind arith
