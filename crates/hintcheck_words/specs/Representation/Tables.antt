-- The tables of the command line, in the terms of clap's definitions.
use Rattle.std.specs.Prelude.{map}
use Rattle.clap.specs.Words.{App, Rule, Text}
use Rattle.hintcheck_words.specs.CommandLine.{flag, needed, needed_list, needed_number, number_option_32, number_option_64, optional, short_flag, taking, text_option}
use Rattle.hintcheck_words.specs.declared.words.command_line.Form.{Form}
use Rattle.hintcheck_words.specs.declared.words.command_line.Form.TheVariants as form
use Rattle.hintcheck_words.specs.declared.words.command_line.Parameter.{Parameter}
use Rattle.hintcheck_words.specs.declared.words.command_line.Subcommand.{Subcommand}

-- the argument or the option of this form
abbrev pub rule_of_form : Form → Text → Rule
rule_of_form form.Text id = needed id
rule_of_form form.Texts id = needed_list id
rule_of_form form.Number id = needed_number id
rule_of_form form.OptionalText id = optional id
rule_of_form (form.Flag name) id = flag id name.now
rule_of_form (form.ShortFlag name short) id = short_flag id name.now short
rule_of_form (form.TextOption name) id = text_option id name.now
rule_of_form (form.Number32Option name) id = number_option_32 id name.now
rule_of_form (form.Number64Option name) id = number_option_64 id name.now

-- the argument or the option that a parameter of a table tells
abbrev pub rule_of_parameter : Parameter → Rule
rule_of_parameter parameter = rule_of_form parameter.form parameter.id.now

-- the subcommand that a table tells
abbrev pub app_of_table : Subcommand → App
app_of_table table = taking table.name.now (map rule_of_parameter table.parameters.now)
