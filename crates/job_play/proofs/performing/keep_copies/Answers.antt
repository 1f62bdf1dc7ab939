use Rattle.std.proofs.Common.{◌≡◌, ◌∙◌, List, ap, length, refl, subst, sym}
use Rattle.std.proofs.lemmas.Result.{on_ok_weaker}
use Rattle.block_map.specs.declared.CopyOrder.{CopyOrder}
use Rattle.block_map.specs.Copies.{AreCopies, all_copies, holdings}
use Rattle.block_map.proofs.Computed.{copies_are}
use Rattle.report_lines.specs.Lines.{copy_lines}
use Rattle.report_lines.specs.Past.{copies_at}
use Rattle.report_lines.proofs.Told.{pasts_tell_the_copies}
use Rattle.job_play.specs.Pasts.{past_at}
use Rattle.job_play.proofs.performing.keep_copies.Goals as goal

pub returns-clause-ok : goal.returns-clause-ok
returns-clause-ok c = λ names.
    let job = c.args.master.now in
    let target = c.args.target in
    let h = holdings job.state.workers job.setup.cluster.tree job.state.holders target in
    let orders = copies_at (past_at job target) c.events.result in
    let told : orders ≡ all_copies h =
    ap (copies_at (past_at job target)) c.events.ensures.count
    ∙ pasts_tell_the_copies job.setup target job.history job.state c.is_kept.ensures.legal in
    let count : c.copy_count.result ≡ length orders = c.copy_count.ensures ∙ ap length (sym told) in
    on_ok_weaker c.add_copies.result
    (λ said. record {
      out = copy_lines names.splits names.workers orders;
      performs = record {
        orders = orders;
        are_copies = subst (λ (l : List CopyOrder). AreCopies h l) (sym told) (copies_are h);
        out_is = refl;
        unchanged = refl;
      };
      written = said;
    })
    (c.add_copies.ensures.lines names.splits names.workers (past_at job target) count)
