-- The moments of an answer that is said.
use Rattle.std.proofs.Common.{List, ℕ, ◌++◌, take, sym, ◌∙◌, ap}
use Rattle.std.proofs.lemmas.List.{append-nil}
use Rattle.host_model.specs.declared.side.Side.TheVariants.{Left, Right}
use Rattle.host_model.specs.Moments.{IsSaying}
use Rattle.host_model.proofs.Meeting.{started, goes_on}
use Rattle.session_run.proofs.saying.say_answer.Goals as goal

pub returns-clause-any_moment : goal.returns-clause-any_moment
returns-clause-any_moment g c tells =
    let h = g.H.Host in
    let start = c.args.host.now in
    let still = c.say.ensures.still tells in
    let saying : List ℕ → List ℕ → List ℕ → Type 0 = IsSaying (h.images start) (h.said start) c.args.text.now in
    goes_on h.moment h.might start start c.say.new.self saying _
    (started h.moment h.might start saying (λ l r u met.
    let now = g.met.H.Host.only_now start l r u tells met in
    (now.0, now.1, (0, now.2 ∙ sym (append-nil (h.said start))))))
    (c.say.ensures.time tells)
    (λ l r u met. (((still Left).images_same l).0 met.0, ((still Right).images_same r).0 met.1, (met.2.0, met.2.1 ∙ ap (λ (bytes : List ℕ). h.said start ++ take met.2.0 bytes) c.as_bytes.ensures.value)))
