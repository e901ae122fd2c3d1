use Rattle.std.proofs.Common.{◌≡◌, ◌∙◌, ap, ap₂, codes, rules, true}
use Rattle.std.proofs.lemmas.Result.{IfOk-weaker}
use Rattle.clap.specs.Simple.{app_of_fields, on_top}
use Rattle.clap.specs.Words.{app_of, with_rule}
use Rattle.command_words.specs.ClapCommand.{bare_app, words_app}
use Rattle.command_words.proofs.given.any_command.Goals as goal

pub returns : goal.returns
unfolding words_app
returns c =
    let bare : app_of c.disable_help_flag.result ≡ bare_app (codes "indri") =
    ap app_of_fields c.disable_help_flag.ensures
    ∙ ap (λ f. app_of_fields (record f { disable_help_flag = true })) c.no_binary_name.ensures
    ∙ ap (on_top (λ s. record s { no_binary_name = true; disable_help_flag = true })) c.new.ensures.app in
    let one = c.in_ok-arg.ensures.shape (search rules) ∙ ap₂ with_rule bare c.new-2.ensures.rule in
    let two = c.in_ok-arg-2.ensures.shape (search rules) ∙ ap₂ with_rule one c.new-3.ensures.rule in
    let three = c.in_ok-arg-3.ensures.shape c.option_arg.ensures.local ∙ ap₂ with_rule two c.option_arg.ensures.rule in
    let four = c.in_ok-arg-4.ensures.shape c.option_arg-2.ensures.local ∙ ap₂ with_rule three c.option_arg-2.ensures.rule in
    let five = c.in_ok-arg-5.ensures.shape c.option_arg-3.ensures.local ∙ ap₂ with_rule four c.option_arg-3.ensures.rule in
    IfOk-weaker c.arg-6.result _ _
    (λ r adds. adds.shape c.option_arg-4.ensures.local ∙ ap₂ with_rule five c.option_arg-4.ensures.rule) c.arg-6.ensures
