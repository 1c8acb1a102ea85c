use Rattle.lookahead.proofs.News.{Writing}
use Rattle.lookahead.proofs.literals.write_news.Given as goal

abbrev pub invariant-loop-i : goal.invariant-loop-i
invariant-loop-i l = Writing l.before l.after l.places l.i l.k
