use Rattle.std.proofs.Common.{refl}
use Rattle.steps.proofs.Bookings.{winner_books}
use Rattle.steps.proofs.claims.claim.Goals as goal

pub request_of-r-requires : goal.request_of-r-requires
request_of-r-requires c = (winner_books _ c.requires.sources c.requires.bookable c.args.c _ c.winner-w.ensures c.if-w-eq0.false _ refl).within

pub overflow_sub-wait : goal.overflow_sub-wait
overflow_sub-wait c = (winner_books _ c.requires.sources c.requires.bookable c.args.c _ c.winner-w.ensures c.if-w-eq0.false _ c.request_of-r.ensures).begun

pub put_request-requires : goal.put_request-requires
put_request-requires c = (winner_books _ c.requires.sources c.requires.bookable c.args.c _ c.winner-w.ensures c.if-w-eq0.false _ c.request_of-r.ensures).within

pub book-requires : goal.book-requires
book-requires c = (winner_books _ c.requires.sources c.requires.bookable c.args.c _ c.winner-w.ensures c.if-w-eq0.false _ c.request_of-r.ensures).fits

pub returns-clause-within : goal.returns-clause-within
returns-clause-within c = (winner_books _ c.requires.sources c.requires.bookable c.args.c _ c.winner-w.ensures c.if-w-eq0.false _ c.request_of-r.ensures).within
