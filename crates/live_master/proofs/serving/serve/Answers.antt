use Rattle.std.proofs.Common.{ℕ, List, inl, inr, string_bytes, subst}
use Rattle.std.specs.Io.KnownBytes.{Appends}
use Rattle.std.proofs.KnownBytes.{Keeps-refl}
use Rattle.command_runner.specs.declared.tool_error.ToolError.TheVariants as tool
use Rattle.line_rules.specs.declared.purpose.Purpose.TheVariants.{Playing}
use Rattle.line_rules.specs.Faulty.{IsFaulty}
use Rattle.line_rules.proofs.LeastFault.{tells_least}
use Rattle.line_talk.specs.Talks.{closed}
use Rattle.live_master.specs.Serving.{IsOpened, live_of}
use Rattle.live_master.proofs.Served.{ungreeted, unopened}
use Rattle.live_master.proofs.serving.serve.Goals as goal

pub returns-in_err-read_head : goal.returns-in_err-read_head
returns-in_err-read_head g c =
    unopened _ _ _ _ _ c.from_residual.result c.in_err-read_head.field-0.0 c.in_err-read_head.ensures.err
    c.from_residual.ensures.1 (Keeps-refl _)

pub returns-in_err-session-in-Ok : goal.returns-in_err-session-in-Ok
returns-in_err-session-in-Ok g c =
    unopened _ _ _ _ _ c.from_residual-in_err-session-in-Ok.result tool.Memory tt
    c.from_residual-in_err-session-in-Ok.ensures.1 (Keeps-refl _)

pub returns-in_err-write_answer-in-Ok : goal.returns-in_err-write_answer-in-Ok
returns-in_err-write_answer-in-Ok g c =
    ungreeted _ _ _ _ _ c.from_residual-in_err-write_answer-in-Ok.result _ c.in_err-write_answer-in-Ok.field-0.0
    c.from_residual-in_err-write_answer-in-Ok.ensures.1 c.in_err-write_answer-in-Ok.ensures

pub returns-in-Ok : goal.returns-in-Ok
returns-in-Ok g c = inr (record {
  at = _;
  by = _;
  first = c.in_ok-session-in-Ok.session;
  last = _;
  greeted = record {
    text = _;
    head = c.in_ok-read_head.ensures.ok;
    opened = subst (λ (t : List ℕ). IsOpened c.args.audits t (live_of c.in_ok-session-in-Ok.session))
        c.as_slice.ensures.value
        (c.in_ok-session-in-Ok.ensures.opened _ c.in-Ok.ensures.ok);
    greeted = subst (λ (t : List ℕ). Appends (g.W.Write.contents c.args.writer.now)
        (g.W.Write.contents c.write_answer.new.writer) (closed t)) c.new-in-Ok.ensures.bytes
        c.in_ok-write_answer-in-Ok.ensures;
  };
  lines = c.serve_lines.ensures;
})

pub returns-in_err-line-in-Err : goal.returns-in_err-line-in-Err
returns-in_err-line-in-Err g c =
    unopened _ _ _ _ _ c.from_residual-in_err-line-in-Err.result tool.Memory tt
    c.from_residual-in_err-line-in-Err.ensures.1 (Keeps-refl _)

pub returns : goal.returns
returns g c = inl (record {
  text = _;
  line = string_bytes c.in_ok-line-in-Err.line;
  head = c.in_ok-read_head.ensures.ok;
  faulty = subst (λ (t : List ℕ). IsFaulty Playing t c.in_ok-line-in-Err.fault (string_bytes c.in_ok-line-in-Err.line))
      c.as_slice.ensures.value
      (tells_least Playing _ c.in-Err.error c.in_ok-line-in-Err.fault (string_bytes c.in_ok-line-in-Err.line)
      c.in-Err.ensures.err c.in_ok-line-in-Err.ensures);
  told = c.in_ok-write_answer-in-Err.ensures;
})
