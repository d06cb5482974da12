-- What is replied to a write.
use Rattle.std.specs.Prelude.{Result, Ok, Err}
use Rattle.an_answers.specs.Answer.{refusal_reply, write_answer}
use Rattle.an_code.specs.declared.code.Code.TheVariants as code
use Rattle.an_http.specs.declared.reply.Allow.{Allow}
use Rattle.an_http.specs.declared.reply.Reply.{Reply}
use Rattle.an_machine.specs.declared.command.WriteReply.{WriteReply}
use Rattle.an_list.specs.Site.{Site}
use Rattle.an_shelf.specs.declared.error.WriteError.{WriteError}
use Rattle.an_shelf.specs.declared.error.WriteError.TheVariants as error

-- the reply to a write; want of memory is told otherwise
abbrev pub reply_to_write : Site → Allow → Result WriteReply WriteError → Reply
reply_to_write site methods (Ok reply) = write_answer site methods (Ok reply)
reply_to_write site methods (Err (error.Refused refused)) = write_answer site methods (Err refused)
reply_to_write site methods (Err error.Keeper) = refusal_reply methods code.Keeper
reply_to_write site methods (Err error.Memory) = refusal_reply methods code.Keeper
