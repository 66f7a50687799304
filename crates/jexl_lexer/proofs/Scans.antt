-- Scanning gives what the definitions say, on both sides.
use Rattle.std.proofs.Common.{◌≡◌, ◌≢◌, ℕ, Bool, true, false, cond, List, [], ◌∷◌, ◌++◌, Option, Some, None, refl, sym, ap, subst, ◌∙◌, inl, inr}
use Rattle.std.specs.Prelude.{◌==◌, option_map}
use Rattle.std.proofs.lemmas.Bool.{eqb-true, eq-eqb}
use Rattle.std.proofs.lemmas.Bool.Decides.{eqb_tells}
use Rattle.jexl_lexer.specs.Lexing.{AllPass, Stops, Inside, nothing, plain, escaped, NeverClosed, ends, plain_on, escaped_on, last_backslash}
use Rattle.sequences.specs.Runs.{prepend, run}
use Rattle.jexl_lexer.specs.Scanning.{inside}

-- a run that stops is what scanning takes
pub run_there : (p : ℕ → Bool) (ds rest : List ℕ) → AllPass p ds → Stops p rest → run p (ds ++ rest) ≡ (ds, rest)
unfolding run
run_there p [] [] h s = refl
run_there p [] (b ∷ bs) h s = ap (λ (t : Bool). cond t (prepend b (run p bs)) ([], b ∷ bs)) s
run_there p (d ∷ ds) rest h s =
    ap (λ (t : Bool). cond t (prepend d (run p (ds ++ rest))) ([], d ∷ (ds ++ rest))) h.0 ∙ ap (prepend d) (run_there p ds rest h.1 s)

pub record IsRun (p : ℕ → Bool) (bs : List ℕ) (x : List ℕ × List ℕ) : Type 0 where
  pub parts : bs ≡ x.0 ++ x.1
  pub pass : AllPass p x.0
  pub stop : Stops p x.1

run_by : (p : ℕ → Bool) (b : ℕ) (bs : List ℕ) (x : List ℕ × List ℕ) (t : Bool) → p b ≡ t → IsRun p bs x → IsRun p (b ∷ bs) (cond t (prepend b x) ([], b ∷ bs))
run_by p b bs x true e r = record { parts = ap (λ (w : List ℕ). b ∷ w) r.parts; pass = (e, r.pass); stop = r.stop }
run_by p b bs x false e r = record { parts = refl; pass = tt; stop = e }

pub run_is : (p : ℕ → Bool) (bs : List ℕ) → IsRun p bs (run p bs)
unfolding run
run_is p [] = record { parts = refl; pass = tt; stop = tt }
run_is p (b ∷ bs) = run_by p b bs (run p bs) (p b) refl (run_is p bs)

not_eq : (a b : ℕ) → a ≢ b → (a == b) ≡ false
not_eq a b h = elim (eqb_tells a b) [ inl x ↦ absurd (h x.1) | inr x ↦ x.0 ]

-- what stands inside closed quotes is read
pub inside_there : (q : ℕ) (body text rest : List ℕ) → q ≢ 92 → Inside q body text → inside q false (body ++ (q ∷ rest)) ≡ Some (text, rest)
unfolding inside
inside_there q _ _ rest h nothing = ap (λ (t : Bool). cond t (Some ([], rest)) (cond (q == 92) (inside q true rest) (option_map (prepend q) (inside q false rest)))) (eq-eqb q q refl)
inside_there q _ _ rest h (plain {cs = cs} {ts = ts} c n m d) =
    let more = cs ++ (q ∷ rest) in
    ap (λ (t : Bool). cond t (Some ([], more)) (cond (c == 92) (inside q true more) (option_map (prepend c) (inside q false more)))) (not_eq c q n)
    ∙ ap (λ (t : Bool). cond t (inside q true more) (option_map (prepend c) (inside q false more))) (not_eq c 92 m)
    ∙ ap (option_map (prepend c)) (inside_there q cs ts rest h d)
inside_there q _ _ rest h (escaped {cs = cs} {ts = ts} c d) =
    let more = cs ++ (q ∷ rest) in
    ap (λ (t : Bool). cond t (Some ([], c ∷ more)) (option_map (prepend c) (inside q false more))) (not_eq 92 q (λ e. h (sym e)))
    ∙ ap (option_map (prepend c)) (inside_there q cs ts rest h d)

-- what is never closed isn't
pub never_there : (q : ℕ) (body : List ℕ) → q ≢ 92 → NeverClosed q body → inside q false body ≡ None
unfolding inside
never_there q _ h ends = refl
never_there q _ h (plain_on {cs = cs} c n m d) =
    ap (λ (t : Bool). cond t (Some ([], cs)) (cond (c == 92) (inside q true cs) (option_map (prepend c) (inside q false cs)))) (not_eq c q n)
    ∙ ap (λ (t : Bool). cond t (inside q true cs) (option_map (prepend c) (inside q false cs))) (not_eq c 92 m)
    ∙ ap (option_map (prepend c)) (never_there q cs h d)
never_there q _ h (escaped_on {cs = cs} c d) =
    ap (λ (t : Bool). cond t (Some ([], c ∷ cs)) (option_map (prepend c) (inside q false cs))) (not_eq 92 q (λ e. h (sym e)))
    ∙ ap (option_map (prepend c)) (never_there q cs h d)
never_there q _ h last_backslash = ap (λ (t : Bool). cond t (Some ([], [])) None) (not_eq 92 q (λ e. h (sym e)))

-- and the other side: what is read stood inside closed quotes
pub record IsInside (q : ℕ) (bs : List ℕ) (x : List ℕ × List ℕ) : Type 0 where
  pub body : List ℕ
  pub parts : bs ≡ body ++ (q ∷ x.1)
  pub spelled : Inside q body x.0

abbrev pub Closed : ℕ → List ℕ → Option (List ℕ × List ℕ) → Type 0
Closed q bs None = NeverClosed q bs
Closed q bs (Some x) = IsInside q bs x

-- behind a backslash
abbrev pub ClosedEscaped : ℕ → List ℕ → Option (List ℕ × List ℕ) → Type 0
ClosedEscaped q bs None = NeverClosed q (92 ∷ bs)
ClosedEscaped q bs (Some x) = IsInside q (92 ∷ bs) x

escaped_by : (q c : ℕ) (cs : List ℕ) (o : Option (List ℕ × List ℕ)) → Closed q cs o → ClosedEscaped q (c ∷ cs) (option_map (prepend c) o)
escaped_by q c cs None h = escaped_on c h
escaped_by q c cs (Some x) h = record { body = 92 ∷ c ∷ h.body; parts = ap (λ (w : List ℕ). 92 ∷ c ∷ w) h.parts; spelled = escaped c h.spelled }

plain_by : (q c : ℕ) (cs : List ℕ) (o : Option (List ℕ × List ℕ)) → c ≢ q → c ≢ 92 → Closed q cs o → Closed q (c ∷ cs) (option_map (prepend c) o)
plain_by q c cs None n m h = plain_on c n m h
plain_by q c cs (Some x) n m h = record { body = c ∷ h.body; parts = ap (λ (w : List ℕ). c ∷ w) h.parts; spelled = plain c n m h.spelled }

backslash_by : (q c : ℕ) (cs : List ℕ) (o : Option (List ℕ × List ℕ)) → c ≡ 92 → ClosedEscaped q cs o → Closed q (c ∷ cs) o
backslash_by q c cs None e h = subst (λ (b : ℕ). NeverClosed q (b ∷ cs)) (sym e) h
backslash_by q c cs (Some x) e h = subst (λ (b : ℕ). IsInside q (b ∷ cs) x) (sym e) h

not_eqb : (a b : ℕ) → (a == b) ≡ false → a ≢ b
not_eqb a b h e = let t = eq-eqb a b e in cc

closed_by : (q c : ℕ) (cs : List ℕ) (s t : Bool) → (c == q) ≡ s → (c == 92) ≡ t → Closed q cs (inside q false cs) → ClosedEscaped q cs (inside q true cs)
    → Closed q (c ∷ cs) (cond s (Some ([], cs)) (cond t (inside q true cs) (option_map (prepend c) (inside q false cs))))
closed_by q c cs true t es et h g = record { body = []; parts = ap (λ (b : ℕ). b ∷ cs) (eqb-true c q es); spelled = nothing }
closed_by q c cs false true es et h g = backslash_by q c cs (inside q true cs) (eqb-true c 92 et) g
closed_by q c cs false false es et h g = plain_by q c cs (inside q false cs) (not_eqb c q es) (not_eqb c 92 et) h

pub inside_is : (q : ℕ) (e : Bool) (bs : List ℕ) → cond e (ClosedEscaped q bs (inside q e bs)) (Closed q bs (inside q e bs))
unfolding inside
inside_is q true [] = last_backslash
inside_is q false [] = ends
inside_is q true (c ∷ cs) = escaped_by q c cs (inside q false cs) (inside_is q false cs)
inside_is q false (c ∷ cs) = closed_by q c cs (c == q) (c == 92) refl refl (inside_is q false cs) (inside_is q true cs)
