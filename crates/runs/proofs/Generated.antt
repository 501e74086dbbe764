-- Fourteen runs of the second program's generator, and what its ledger says of each: the definitions agree, by computation.
-- Every number here is the second program's: tests/history/runs.c writes the file, tests/history/run compares it.
-- `Seen` shows the requests at all hubs, and of hub 0 the words met, the count and the words held. The last two runs move.
-- In order: the runs, each with its proof, so that a run that disagrees is named; all of them, and `agree`.
use Rattle.history.specs.History.{Step, down, failed, met, timed_out, up, waiting, withdrawn}
use Rattle.history.specs.Statements.{Each}
use Rattle.runs.specs.Worked.{Seen, call, row, shows}
use mathlib.Core.List.{List, [], ◌∷◌}
use mathlib.Core.Path.{◌≡◌, refl}

-- the calls and moves behind the Blank, and what the ledger says of them
pub record Drawn : Type 0 where
  pub steps : List Step
  pub ledger : Seen

abbrev pub Agrees : Drawn → Type 0
Agrees d = shows d.steps ≡ d.ledger

-- call: service caller target side mode ticks word high; up, down: words of the destination; row: task hub side word class
-- received, a word low + 2^32 * high

-- hub 0 is an Event
unfoldable pub drawn_1 : Drawn
drawn_1 = record {
  steps =
      call 9 4294967295 0 1 3788355567 3046814845 818160224 0
      ∷ call 9 0 1 1 2113741841 361126432 3155691348 0
      ∷ call 9 0 0 1 665858138 0 0 0
      ∷ call 9 0 0 1 0 0 1645819048 0
      ∷ call 8 0 1 0 0 1778458040 0 0
      ∷ call 10 0 1 3658126010 4019566452 1 0 0
      ∷ call 7 0 947016199 0 0 0 0 0  -- refused with 6
      ∷ call 10 0 2 4046257221 0 3 1 0
      ∷ call 10 0 3 0 3272412344 0 0 0
      ∷ call 1 0 0 1 3 1 4294967295 0
      ∷ call 3 3 3601887946 4294967295 3696166395 0 0 0  -- refused with 4
      ∷ call 1 0 0 1 1 0 3489939896 0
      ∷ call 1 2 0 1 2 0 3083883052 0
      ∷ call 1 2 0 1 3 1 0 0
      ∷ call 1 3 1 2 1 0 1184461442 0
      ∷ call 1 3 0 1 3 1000000 3224721191 0
      ∷ call 6 1 0 3656095327 3522373751 0 1970132557 0
      ∷ call 1 1 0 2 3 1 850176635 0
      ∷ call 1 0 0 1 3 1 2375681408 0
      ∷ call 1 1 0 2 3 0 317574985 0  -- refused with 6
      ∷ call 1 1 1 1 3 1 262639462 0
      ∷ call 4 1 0 0 130083195 1438814233 0 0
      ∷ call 8 1 4187703704 1353497179 129856387 0 0 0
      ∷ call 1 2 0 1 3 1 0 0
      ∷ [];
  ledger = record {
    requests =
        row 0 0 1 0 met 0
        ∷ row 0 0 1 0 met 0
        ∷ row 2 0 1 0 failed 0
        ∷ row 2 0 1 0 timed_out 0
        ∷ row 3 1 2 0 met 0
        ∷ row 3 0 1 0 waiting 0
        ∷ row 1 0 2 0 met 0
        ∷ row 0 0 1 0 timed_out 0
        ∷ row 1 1 1 0 met 0
        ∷ row 2 0 1 0 waiting 0
        ∷ [];
    puts = 0 ∷ 0 ∷ [];
    gets = 0 ∷ [];
    removed = 0;
    count = 1;
    held = [];
  };
}

agrees_1 : Agrees drawn_1
unfolding drawn_1 shows
agrees_1 = refl

-- hub 0 is a Semaphore
unfoldable pub drawn_2 : Drawn
drawn_2 = record {
  steps =
      call 9 4294967295 0 1 0 0 0 0
      ∷ call 9 0 0 1 2326195729 0 0 0
      ∷ call 9 0 0 1 1273076928 1821896178 0 0
      ∷ call 10 0 2 3605222193 1 2 0 0
      ∷ call 1 0 0 2 3 1 2936592566 0
      ∷ call 9 1 0 1 0 415018370 2117405024 0
      ∷ call 1 1 0 1 2 0 0 0
      ∷ call 8 1 933112259 2164821504 4294967295 3677573578 0 0
      ∷ call 8 1 4201606622 0 289846047 2653974317 291553576 0
      ∷ call 1 1 0 1 3 1000000 1 0
      ∷ call 8 1 0 1 3390547143 2888948388 2147483648 0
      ∷ call 1 1 0 1 1 0 1567395942 0
      ∷ call 7 1 0 3374854730 0 1 1693654257 0
      ∷ call 3 2 1 0 0 3457386636 0 0
      ∷ call 1 2 0 1 3 1 3074237299 0
      ∷ call 1 3 0 1 2 0 3505864668 0
      ∷ call 5 3 0 440901266 0 0 0 0
      ∷ call 1 3 0 1 3 1 0 0
      ∷ call 1 0 0 2 2 0 4193216274 0
      ∷ call 7 0 0 2795693976 875692619 1 1 0
      ∷ call 1 2 0 1 2 0 3494083197 0
      ∷ call 1 2 0 1 3 1 0 0
      ∷ call 8 4294967295 0 2060081253 0 0 2140580027 0
      ∷ call 1 0 0 2 3 1 1348444166 0
      ∷ [];
  ledger = record {
    requests =
        row 0 0 2 0 met 0
        ∷ row 1 0 1 0 met 0
        ∷ row 1 0 1 0 met 0
        ∷ row 1 0 1 0 met 0
        ∷ row 2 0 1 0 met 0
        ∷ row 3 0 1 0 failed 0
        ∷ row 3 0 1 0 timed_out 0
        ∷ row 0 0 2 0 met 0
        ∷ row 2 0 1 0 failed 0
        ∷ row 2 0 1 0 timed_out 0
        ∷ row 0 0 2 0 met 0
        ∷ [];
    puts = 0 ∷ 0 ∷ 0 ∷ 0 ∷ [];
    gets = 0 ∷ 0 ∷ 0 ∷ [];
    removed = 0;
    count = 1;
    held = [];
  };
}

agrees_2 : Agrees drawn_2
unfolding drawn_2 shows
agrees_2 = refl

-- hub 0 is a Semaphore
unfoldable pub drawn_3 : Drawn
drawn_3 = record {
  steps =
      call 10 4294967295 2 4016230645 2929775023 3 3 0
      ∷ call 9 4294967295 0 1 0 2147483648 3631722651 0
      ∷ call 5 0 0 0 0 2289535355 1223023469 0
      ∷ call 9 0 0 1 0 1 0 0
      ∷ call 1 0 0 1 3 2 1641571392 0
      ∷ call 1 1 0 1 1 0 3670389876 0
      ∷ call 9 4294967295 0 1 0 1982924584 2272600121 0
      ∷ call 1 2 0 2 3 2 2432540321 0
      ∷ call 1 2 0 1 3 2 4294967295 0
      ∷ call 7 0 0 1 0 2 4294967295 0
      ∷ call 9 4294967295 0 1 400318489 0 2970288258 0
      ∷ call 1 3 0 1 2 0 579578726 0
      ∷ call 1 3 0 2 3 2 148444209 0
      ∷ call 6 3 0 0 0 0 3880366692 0
      ∷ call 6 1 0 0 2785464684 1656387678 1408763990 0
      ∷ call 8 3 3698536331 4294967295 0 412392404 0 0
      ∷ call 1 3 0 1 1 0 2147483648 0
      ∷ call 2 1 2 2327223327 0 0 2587561989 0
      ∷ call 1 1 0 1 3 1 787613921 0
      ∷ call 8 4294967295 0 0 227072646 2164831765 0 0
      ∷ call 8 0 0 0 0 0 0 0
      ∷ call 8 0 0 0 0 0 0 0
      ∷ call 8 0 3403092393 0 0 0 0 0
      ∷ call 1 0 0 1 1 0 4294967295 0
      ∷ [];
  ledger = record {
    requests =
        row 0 0 1 0 met 0
        ∷ row 1 0 1 0 met 0
        ∷ row 2 0 2 0 met 0
        ∷ row 2 0 1 0 timed_out 0
        ∷ row 3 0 1 0 failed 0
        ∷ row 3 0 2 0 met 0
        ∷ row 3 0 1 0 waiting 0
        ∷ row 1 0 1 0 timed_out 0
        ∷ row 0 0 1 0 waiting 0
        ∷ [];
    puts = 0 ∷ 0 ∷ [];
    gets = 0 ∷ 0 ∷ [];
    removed = 0;
    count = 3;
    held = [];
  };
}

agrees_3 : Agrees drawn_3
unfolding drawn_3 shows
agrees_3 = refl

-- hub 0 is a Port
unfoldable pub drawn_4 : Drawn
drawn_4 = record {
  steps =
      call 0 4294967295 988966655 2659385474 0 2147483648 0 0
      ∷ call 9 4294967295 0 1 1436528969 1470780546 496560959 0
      ∷ call 9 0 0 1 0 0 0 0
      ∷ call 10 0 3 2523514914 942217900 0 0 0
      ∷ call 8 0 0 2425595713 190712267 1130076460 0 0
      ∷ call 1 0 0 2 2 0 3267368828 0
      ∷ call 1 0 0 1 1 0 3704642906 0
      ∷ call 4 1 0 0 0 0 2738023836 0
      ∷ call 3 1 0 1199281308 0 0 503759686 0
      ∷ call 10 1 2 0 0 2 0 0
      ∷ call 1 1 0 1 2 0 3810198623 0
      ∷ call 2 1 0 0 0 0 0 0
      ∷ call 4 1 1 0 0 0 0 0
      ∷ call 1 1 1 2 2 0 391511224 0
      ∷ call 1 1 0 1 3 695762 744964744 0
      ∷ call 4 0 0 0 0 0 0 0
      ∷ call 1 0 0 1 2 0 2532874289 0
      ∷ call 1 0 1 1 2 0 1939380877 0
      ∷ call 1 0 0 2 2 0 3116192333 0
      ∷ call 1 0 0 2 1 0 352945578 0
      ∷ call 1 1 0 1 3 430123 1604029833 0
      ∷ call 1 1 0 1 3 383866 1349069781 0
      ∷ call 8 0 0 1631488478 4141143885 504512737 0 0
      ∷ call 1 0 0 1 2 0 4294967295 0
      ∷ [];
  ledger = record {
    requests =
        row 0 0 2 0 failed 0
        ∷ row 0 0 1 3704642906 withdrawn 0
        ∷ row 1 0 1 3810198623 failed 0
        ∷ row 1 1 2 0 failed 0
        ∷ row 1 0 1 744964744 met 0
        ∷ row 0 0 1 2532874289 failed 0
        ∷ row 0 1 1 0 met 0
        ∷ row 0 0 2 0 met 744964744
        ∷ row 0 0 2 0 met 1604029833
        ∷ row 1 0 1 1604029833 met 0
        ∷ row 1 0 1 1349069781 waiting 1349069781
        ∷ row 0 0 1 4294967295 failed 0
        ∷ [];
    puts = 744964744 ∷ 1604029833 ∷ [];
    gets = 744964744 ∷ 1604029833 ∷ [];
    removed = 0;
    count = 0;
    held = [];
  };
}

agrees_4 : Agrees drawn_4
unfolding drawn_4 shows
agrees_4 = refl

-- hub 0 is a Port
unfoldable pub drawn_5 : Drawn
drawn_5 = record {
  steps =
      call 9 4294967295 1 1 0 0 4199169683 0
      ∷ call 9 0 1 1 0 4062484030 0 0
      ∷ call 9 0 2 1 0 1 0 0
      ∷ call 8 0 1659061186 448463263 1676663639 0 0 0
      ∷ call 10 0 3 102242999 0 0 0 0
      ∷ call 10 0 1 2147483648 0 1 0 0
      ∷ call 1 0 0 1 3 3 1549137001 0
      ∷ call 1 1 0 1 1 1087882127 4294967295 0  -- refused with 6
      ∷ call 1 1 0 2 3 3 3157231042 0
      ∷ call 3 1 3 2 3 2 0 0  -- refused with 5
      ∷ call 1 1 2 0 3 1 0 0  -- refused with 5
      ∷ call 1 1 0 2 1 0 93853897 0
      ∷ call 1 0 0 1 1 0 0 0
      ∷ call 1 0 1 2 3 1 171651728 0
      ∷ call 1 1 1 1 3 1 2099804571 0
      ∷ call 7 1 0 4021524221 1646524773 1 0 0
      ∷ call 1 0 0 1 3 1 1378617469 0
      ∷ call 3 4294967295 1507166478 0 0 1400927203 0 0  -- refused with 4
      ∷ call 1 2 1 2 3 1 3172881125 0
      ∷ call 8 4294967295 0 0 3633287768 2558705374 0 0
      ∷ call 8 0 0 2929040303 0 0 0 0
      ∷ call 9 0 1 1 0 0 2756677667 0
      ∷ call 6 0 0 3989332086 2266399868 2937544297 68374998 0
      ∷ call 2 1 1 0 0 0 2077200023 0
      ∷ [];
  ledger = record {
    requests =
        row 0 0 1 1549137001 met 0
        ∷ row 1 0 2 0 met 1549137001
        ∷ row 1 0 2 0 met 0
        ∷ row 0 0 1 0 met 0
        ∷ row 0 1 2 0 met 0
        ∷ row 1 1 1 0 met 0
        ∷ row 0 0 1 1378617469 timed_out 0
        ∷ row 2 1 2 0 timed_out 0
        ∷ [];
    puts = 1549137001 ∷ 0 ∷ [];
    gets = 1549137001 ∷ 0 ∷ [];
    removed = 0;
    count = 0;
    held = [];
  };
}

agrees_5 : Agrees drawn_5
unfolding drawn_5 shows
agrees_5 = refl

-- hub 0 is a FIFO
unfoldable pub drawn_6 : Drawn
drawn_6 = record {
  steps =
      call 9 4294967295 0 1 2115677464 429632053 0 0
      ∷ call 2 0 4294967295 1 3 1 1707948011 0  -- refused with 5
      ∷ call 9 0 0 1 0 3385345686 0 0
      ∷ call 9 0 0 1 2276066230 0 3527077567 0
      ∷ call 9 0 0 1 0 586889655 0 0
      ∷ call 10 0 4 0 0 3 0 0
      ∷ call 1 0 0 2 2 0 4073445086 0
      ∷ call 1 0 0 2 3 1 1374679544 0
      ∷ call 1 1 0 2 1 0 1322587089 0
      ∷ call 1 2 0 1 1 0 3521279124 0
      ∷ call 10 2 4 4084833810 0 8 0 0
      ∷ call 1 2 0 1 1 0 453937683 0
      ∷ call 1 2 0 2 3 1 4185796308 0
      ∷ call 1 3 0 2 1 0 4001710214 0
      ∷ call 2 0 3 1 0 0 0 0
      ∷ call 4 0 2 0 0 0 0 0
      ∷ call 2 0 1 0 0 0 0 0
      ∷ call 7 0 2147483648 1 0 1 1093631239 0
      ∷ call 2 1 0 0 0 0 2830597105 0
      ∷ call 1 1 0 2 3 1 2147483648 0
      ∷ call 8 4294967295 0 802190839 163448925 0 1 0
      ∷ call 1 0 0 2 3 1 803169078 0
      ∷ call 1 1 0 2 3 1 2826171898 0
      ∷ call 8 4294967295 0 0 0 666410638 0 0
      ∷ [];
  ledger = record {
    requests =
        row 0 0 2 0 failed 0
        ∷ row 0 0 2 0 met 3521279124
        ∷ row 1 0 2 0 met 453937683
        ∷ row 2 0 1 3521279124 met 0
        ∷ row 2 0 1 453937683 met 0
        ∷ row 2 0 2 0 timed_out 0
        ∷ row 3 0 2 0 waiting 0
        ∷ row 1 0 2 0 timed_out 0
        ∷ row 0 0 2 0 timed_out 0
        ∷ row 1 0 2 0 timed_out 0
        ∷ [];
    puts = 3521279124 ∷ 453937683 ∷ [];
    gets = 3521279124 ∷ 453937683 ∷ [];
    removed = 0;
    count = 0;
    held = [];
  };
}

agrees_6 : Agrees drawn_6
unfolding drawn_6 shows
agrees_6 = refl

-- hub 0 is a FIFO
unfoldable pub drawn_7 : Drawn
drawn_7 = record {
  steps =
      call 9 4294967295 15 1 3819475391 3088620555 0 0
      ∷ call 10 0 1 0 0 1 0 0
      ∷ call 6 0 0 3591174540 0 0 3992671961 0
      ∷ call 9 0 153 1 343554392 0 195722905 0
      ∷ call 1 0 0 2 2 0 3184187518 0
      ∷ call 1 0 0 2 2 0 0 0
      ∷ call 1 0 0 1 2 0 1847319793 0
      ∷ call 0 0 0 0 0 0 0 0
      ∷ call 9 4294967295 205 1 2147483648 0 933261893 0
      ∷ call 10 0 4 0 0 3 0 0
      ∷ call 9 0 174 1 0 2602048256 0 0
      ∷ call 1 1 0 2 1 0 1028052856 0
      ∷ call 1 0 0 1 2 0 1 0
      ∷ call 8 1 0 0 0 0 0 0
      ∷ call 1 1 0 2 2 0 3716515633 0
      ∷ call 4 1 0 0 0 3692470550 4294967295 0
      ∷ call 1 1 0 1 1 0 0 0
      ∷ call 3 1 1 0 310236483 0 4294967295 0
      ∷ call 1 1 0 1 2 0 2509016497 0
      ∷ call 5 1 0 0 3663834457 2431558703 0 0
      ∷ call 1 1 0 1 2 0 2147483648 0
      ∷ call 1 1 0 1 2 0 2176522011 0
      ∷ call 3 1 1 0 0 0 70907364 0
      ∷ call 1 1 0 1 1 0 875450781 0
      ∷ [];
  ledger = record {
    requests =
        row 1 0 2 0 met 1
        ∷ row 0 0 1 1 met 0
        ∷ row 1 0 2 0 failed 0
        ∷ row 1 0 1 0 met 0
        ∷ row 1 0 1 2509016497 met 0
        ∷ row 1 0 1 2147483648 met 0
        ∷ row 1 0 1 2176522011 failed 0
        ∷ row 1 0 1 875450781 waiting 875450781
        ∷ [];
    puts = 1 ∷ 0 ∷ 2509016497 ∷ 2147483648 ∷ [];
    gets = 1 ∷ [];
    removed = 0;
    count = 3;
    held = 0 ∷ 2509016497 ∷ 2147483648 ∷ [];
  };
}

agrees_7 : Agrees drawn_7
unfolding drawn_7 shows
agrees_7 = refl

-- hub 0 is a FIFO
unfoldable pub drawn_8 : Drawn
drawn_8 = record {
  steps =
      call 9 4294967295 0 1 0 0 0 0
      ∷ call 9 0 256 1 1 0 3438629510 0  -- refused with 6
      ∷ call 9 0 0 1 0 0 1847022729 0
      ∷ call 10 0 4 2630930292 0 2 0 0
      ∷ call 3 0 0 2464872680 0 4294967295 0 0
      ∷ call 1 0 0 1 3 27 2208600962 0
      ∷ call 1 0 0 1 3 19 2147483648 0
      ∷ call 8 0 0 2276840283 2773009184 448864580 0 0
      ∷ call 4294967295 0 0 4030916892 0 2147483648 0 0  -- refused with 3
      ∷ call 1 0 0 2 3 26 530204587 0
      ∷ call 1 0 0 1 1 0 552026803 0
      ∷ call 10 0 4 2147483648 0 12 0 0  -- refused with 6
      ∷ call 2 4294967295 0 3468912654 0 0 3639737973 0  -- refused with 4
      ∷ call 1 0 0 1 1 0 3366963900 0
      ∷ call 7 1 3422948645 0 2354982565 1000002 0 0  -- refused with 6
      ∷ call 1 1 0 2 3 1 1713635143 0
      ∷ call 1 1 0 1 1 0 4104776217 0
      ∷ call 1 0 0 1 0 29 3947294194 0  -- refused with 6
      ∷ call 5 0 0 3244690624 0 686925408 1258140817 0
      ∷ call 1 0 0 1 2 0 2290080363 0
      ∷ call 4 0 1 0 0 1571678942 0 0
      ∷ call 1 0 0 2 3 4 191877916 0
      ∷ call 2 0 1 0 0 3727232541 4294967295 0
      ∷ call 1 0 0 0 3 1000000 3061728921 0  -- refused with 6
      ∷ [];
  ledger = record {
    requests =
        row 0 0 1 2208600962 met 0
        ∷ row 0 0 1 2147483648 met 0
        ∷ row 0 0 2 0 met 2208600962
        ∷ row 0 0 1 552026803 met 0
        ∷ row 0 0 1 3366963900 met 0
        ∷ row 1 0 2 0 met 2147483648
        ∷ row 1 0 1 4104776217 met 0
        ∷ row 0 0 1 2290080363 failed 0
        ∷ row 0 0 2 0 met 552026803
        ∷ [];
    puts = 2208600962 ∷ 2147483648 ∷ 552026803 ∷ 3366963900 ∷ 4104776217 ∷ [];
    gets = 2208600962 ∷ 2147483648 ∷ 552026803 ∷ [];
    removed = 0;
    count = 2;
    held = 3366963900 ∷ 4104776217 ∷ [];
  };
}

agrees_8 : Agrees drawn_8
unfolding drawn_8 shows
agrees_8 = refl

-- hub 0 is a Resource
unfoldable pub drawn_9 : Drawn
drawn_9 = record {
  steps =
      call 9 4294967295 1 1 0 3520737612 213865523 0
      ∷ call 10 0 5 1193361670 778951277 1 0 0
      ∷ call 10 0 5 572541865 0 1 0 0
      ∷ call 9 0 3 1 1564099244 0 0 0
      ∷ call 9 0 0 1 964217172 2059392476 1857929700 0
      ∷ call 1 2 0 2 2 0 3795320672 0
      ∷ call 9 2 0 1 1909744387 818020316 3736787306 0
      ∷ call 7 2 2255133065 0 0 2 4294967295 0
      ∷ call 2 3 2 0 895611149 0 716809876 0
      ∷ call 2 3 0 0 404845298 2688157708 0 0
      ∷ call 14 3 0 673549213 0 0 4290165776 0  -- refused with 3
      ∷ call 1 3 0 2 3 3 4089236001 0
      ∷ call 1 0 0 2 2 0 4294967295 0
      ∷ call 1 0 0 2 2 0 1695111076 0
      ∷ call 1 0 0 2 3 2 1144265193 0
      ∷ call 1 1 0 1 2 0 1 0
      ∷ call 1 1 0 2 3 3 3993843963 0
      ∷ call 8 4294967295 0 4242163689 0 617595868 0 0
      ∷ call 8 4294967295 0 0 1061793777 0 585331937 0
      ∷ call 1 2 0 1 2 0 1525761857 0
      ∷ call 1 2 0 2 1 0 2419699558 0
      ∷ call 3 3 3 0 660558960 149402475 0 0
      ∷ call 1 3 0 1 2 0 3418948556 0
      ∷ call 1 3 0 2 2 0 3470869409 0
      ∷ [];
  ledger = record {
    requests =
        row 2 0 2 0 met 0
        ∷ row 3 0 2 0 met 0
        ∷ row 0 0 2 0 failed 0
        ∷ row 0 0 2 0 failed 0
        ∷ row 0 0 2 0 timed_out 0
        ∷ row 1 0 1 0 failed 0
        ∷ row 1 0 2 0 waiting 0
        ∷ row 2 0 1 0 met 0
        ∷ row 2 0 2 0 met 0
        ∷ row 3 0 1 0 met 0
        ∷ row 3 0 2 0 failed 0
        ∷ [];
    puts = 0 ∷ 0 ∷ [];
    gets = 0 ∷ 0 ∷ 0 ∷ [];
    removed = 0;
    count = 3;
    held = [];
  };
}

agrees_9 : Agrees drawn_9
unfolding drawn_9 shows
agrees_9 = refl

-- hub 0 is a Resource
unfoldable pub drawn_10 : Drawn
drawn_10 = record {
  steps =
      call 10 4294967295 4294967295 0 0 65534 0 0  -- refused with 6
      ∷ call 9 4294967295 0 1 1 1 0 0
      ∷ call 2 0 1392589091 0 3 1000000 976168277 0  -- refused with 5
      ∷ call 9 0 0 1 2146668241 0 2789896084 0
      ∷ call 9 0 0 1 3679964517 0 0 0
      ∷ call 10 0 5 0 0 1 0 0
      ∷ call 9 0 1 0 0 2042247905 0 0
      ∷ call 9 0 0 1 3609733145 95448699 3183860479 0
      ∷ call 9 0 1 1 0 0 2147483648 0
      ∷ call 9 0 1 1 0 2569320018 0 0
      ∷ call 10 0 5 3488990909 3239427463 1 0 0
      ∷ call 10 0 0 1114306209 4052303444 1 0 0  -- refused with 6
      ∷ call 1 0 1 2 3 8 3037048733 0
      ∷ call 10 0 4 3415599659 0 7 0 0
      ∷ call 10 0 5 0 1495885452 1 0 0
      ∷ call 10 0 2 0 106410284 4 0 0
      ∷ call 1 0 0 2 3 4 246984275 0
      ∷ call 7 0 0 2840772802 0 11 4294967295 0
      ∷ call 1 1 0 2 1 0 0 0
      ∷ call 1 2 0 2 1 0 650061044 0
      ∷ call 1 4 1 2 3 13 41394635 0
      ∷ call 3 5 0 1703891235 0 0 2147483648 0
      ∷ call 1 1 0 2 1 0 3715020110 0
      ∷ call 7 1 169386892 4068372868 0 7 0 0
      ∷ [];
  ledger = record {
    requests =
        row 0 1 2 0 met 0
        ∷ row 0 0 2 0 met 0
        ∷ row 1 0 2 0 met 0
        ∷ row 2 0 2 0 waiting 0
        ∷ row 4 1 2 0 met 0
        ∷ row 1 0 2 0 failed 0
        ∷ [];
    puts = [];
    gets = 0 ∷ 0 ∷ [];
    removed = 1;
    count = 2;
    held = [];
  };
}

agrees_10 : Agrees drawn_10
unfolding drawn_10 shows
agrees_10 = refl

-- hub 0 is a Board
unfoldable pub drawn_11 : Drawn
drawn_11 = record {
  steps =
      call 10 4294967295 6 0 2921013769 1 0 0
      ∷ call 9 4294967295 3 1 0 4151298261 0 0
      ∷ call 1 0 0 2 3 1 3743893785 0
      ∷ call 8 4294967295 0 0 2042822398 100267699 0 0
      ∷ call 1 0 0 2 3 1 1277269730 0
      ∷ call 9 4294967295 3 1 591216254 2147483648 0 0
      ∷ call 9 1 3 1 313024475 2503150508 886765957 0
      ∷ call 1 1 0 3 1 0 934608582 0
      ∷ call 4 1 0 2944021927 4203388413 2867681987 0 0
      ∷ call 2 1 2 2210641708 0 2599254132 0 0
      ∷ call 1 1 0 2 3 1 3291007262 0
      ∷ call 1 2 0 1 3 1 464803428 0
      ∷ call 2 2 1 0 261922882 1310961186 0 0
      ∷ call 1 2 0 3 1 0 2478175840 0
      ∷ call 1 2 0 1 1 0 1 0
      ∷ call 1 2 0 1 1 0 4024511934 0
      ∷ call 8 2 1528369838 0 3364675218 2879175083 134957516 0
      ∷ call 1 2 0 1 3 1 1322425771 0
      ∷ call 1 2 0 1 1 0 631021345 0
      ∷ call 1 2 0 2 1 0 3349095241 0
      ∷ call 1 2 0 2 1 0 892311529 0
      ∷ call 2 2 1 1739537252 207712047 150367917 4281877699 0
      ∷ call 1 2 0 3 3 1 1326505161 0
      ∷ call 1 2 0 2 3 1 3053467209 0
      ∷ [];
  ledger = record {
    requests =
        row 0 0 2 0 timed_out 0
        ∷ row 0 0 2 0 met 464803428
        ∷ row 1 0 3 0 met 0
        ∷ row 1 0 2 0 met 464803428
        ∷ row 2 0 1 464803428 met 0
        ∷ row 2 0 3 0 met 0
        ∷ row 2 0 1 1 met 0
        ∷ row 2 0 1 4024511934 met 0
        ∷ row 2 0 1 1322425771 met 0
        ∷ row 2 0 1 631021345 met 0
        ∷ row 2 0 2 0 met 631021345
        ∷ row 2 0 2 0 met 631021345
        ∷ row 2 0 3 0 met 0
        ∷ row 2 0 2 0 waiting 0
        ∷ [];
    puts = 464803428 ∷ 1 ∷ 4024511934 ∷ 1322425771 ∷ 631021345 ∷ [];
    gets = 464803428 ∷ 464803428 ∷ 631021345 ∷ 631021345 ∷ [];
    removed = 0;
    count = 0;
    held = [];
  };
}

agrees_11 : Agrees drawn_11
unfolding drawn_11 shows
agrees_11 = refl

-- hub 0 is a Board
unfoldable pub drawn_12 : Drawn
drawn_12 = record {
  steps =
      call 9 4294967295 0 1 3741406427 0 2811307700 0
      ∷ call 9 0 0 1 0 0 0 0
      ∷ call 9 0 255 1 0 0 585639495 0
      ∷ call 10 0 6 0 0 1 0 0
      ∷ call 1 0 0 2 1 0 974677171 0
      ∷ call 1 1 0 1 3 7 64167136 0
      ∷ call 8 1 89970492 490729638 0 0 2643791205 0
      ∷ call 8 1 0 0 3406951744 0 0 0
      ∷ call 1 1 0 3 2 0 1824157558 0
      ∷ call 1 1 0 3 1 0 4294967295 0
      ∷ call 1 1 0 2 3 2 1118700609 0
      ∷ call 1 0 0 3 3 4 0 0
      ∷ call 9 0 0 1 0 467981266 2415026813 0
      ∷ call 1 0 0 2 1 0 4086877699 0
      ∷ call 3 3 0 959969514 914157943 0 0 0
      ∷ call 1 3 0 2 3 3 0 0
      ∷ call 1 2 0 2 2 0 4294967295 0
      ∷ call 2 2 0 2763668157 4095840802 2147483648 1895045292 0
      ∷ call 1 0 0 2 1 0 980182130 0
      ∷ call 1 2 0 1 3 5 4294967295 0
      ∷ call 1 1 0 1 1 0 1 0
      ∷ call 2 1 3 0 0 0 0 0
      ∷ call 5 1 2 3050164511 581371226 2954814998 4294967295 0
      ∷ call 8 1 0 1412164313 819726808 0 0 0
      ∷ [];
  ledger = record {
    requests =
        row 0 0 2 0 met 64167136
        ∷ row 1 0 1 64167136 met 0
        ∷ row 1 0 3 0 met 0
        ∷ row 1 0 3 0 met 0
        ∷ row 1 0 2 0 met 4294967295
        ∷ row 0 0 3 0 met 0
        ∷ row 0 0 2 0 withdrawn 0
        ∷ row 3 0 2 0 met 4294967295
        ∷ row 2 0 2 0 failed 0
        ∷ row 0 0 2 0 met 4294967295
        ∷ row 2 0 1 4294967295 met 0
        ∷ row 1 0 1 1 met 0
        ∷ [];
    puts = 64167136 ∷ 4294967295 ∷ 1 ∷ [];
    gets = 64167136 ∷ 4294967295 ∷ 4294967295 ∷ 4294967295 ∷ [];
    removed = 0;
    count = 1;
    held = 1 ∷ [];
  };
}

agrees_12 : Agrees drawn_12
unfolding drawn_12 shows
agrees_12 = refl

-- hub 0 is a FIFO
unfoldable pub drawn_13 : Drawn
drawn_13 = record {
  steps =
      call 9 4294967295 2 1 3723043384 0 2127197237 0
      ∷ call 9 0 0 1 0 2147483648 0 0
      ∷ call 9 1 2 0 3148813348 3109241893 0 0
      ∷ call 9 1 2 1 0 2809462061 0 0
      ∷ call 9 1 2 1 0 4294967295 0 0
      ∷ call 10 1 4 2981370916 1 5 0 0
      ∷ call 10 1 2 2300146915 0 2 2 0
      ∷ call 10 1 4 4074028903 2625073186 6 0 0
      ∷ call 1 1 1 1 3 2 3724620412 0
      ∷ call 10 0 1 440869705 0 1 0 0
      ∷ call 1 0 2 2 1 0 1 0
      ∷ call 1 3 0 2 1 0 3782887789 0
      ∷ call 1 4 2 2 3 1 176415613 0
      ∷ call 9 4294967295 0 1 0 0 0 0
      ∷ call 1 5 1 1 3 1 2963650773 0
      ∷ up 744
      ∷ call 8 4294967295 0 0 0 0 0 4019970710
      ∷ call 1 5 2 1 3 1 0 4294967295
      ∷ call 1 5 2 1 3 1 3911329023 2
      ∷ call 1 5 1 1 2 0 105803618 1
      ∷ call 1 5 3 1 3 2 2846341553 0
      ∷ call 1 5 0 1 3 2 1 2539590376
      ∷ call 1 5 1 2 3 1000000 3497554890 1
      ∷ call 1 5 2 2 3 2 3517366970 2368390746
      ∷ call 1 5 0 1 3 3 0 2
      ∷ call 1 5 1 1 1 0 3226525392 0
      ∷ call 9 1 2 1 3688817266 3812417266 0 3
      ∷ call 8 1 3326849430 3662756760 1667411299 0 0 0
      ∷ call 1 1 0 2 3 2 2430670409 1
      ∷ call 1 1 0 1 1 0 1731759765 4294967295
      ∷ call 1 1 2 2 2 0 1527462036 3
      ∷ [];
  ledger = record {
    requests =
        row 1 1 1 0 met 0
        ∷ row 0 2 2 0 met 18446744069414584320
        ∷ row 3 0 2 0 met 10907457610156343297
        ∷ row 4 2 2 0 timed_out 0
        ∷ row 5 1 1 0 timed_out 0
        ∷ row 5 2 1 18446744069414584320 met 0
        ∷ row 5 2 1 12501263615 met 0
        ∷ row 5 1 1 0 failed 0
        ∷ row 5 3 1 0 met 0
        ∷ row 5 0 1 10907457610156343297 met 0
        ∷ row 5 1 2 0 met 0
        ∷ row 5 2 2 0 met 12501263615
        ∷ row 5 0 1 8589934592 met 0
        ∷ row 5 1 1 0 waiting 0
        ∷ row 1 0 2 0 met 8589934592
        ∷ row 1 0 1 18446744071146344085 met 0
        ∷ row 1 2 2 0 failed 0
        ∷ [];
    puts = 10907457610156343297 ∷ 8589934592 ∷ 18446744071146344085 ∷ [];
    gets = 10907457610156343297 ∷ 8589934592 ∷ [];
    removed = 0;
    count = 1;
    held = 18446744071146344085 ∷ [];
  };
}

agrees_13 : Agrees drawn_13
unfolding drawn_13 shows
agrees_13 = refl

-- hub 0 is a Port
unfoldable pub drawn_14 : Drawn
drawn_14 = record {
  steps =
      call 9 4294967295 0 1 0 0 2336574142 0
      ∷ call 9 0 0 1 2393027176 443521866 0 0
      ∷ call 9 0 0 0 0 4107355530 0 0
      ∷ call 10 0 3 3763529238 2147483648 0 0 0
      ∷ call 9 0 0 1 0 0 401992615 0
      ∷ call 10 0 3 0 0 0 0 0
      ∷ call 10 0 1 0 3044765274 1 0 0
      ∷ call 10 0 3 2369888154 2147483648 0 0 0
      ∷ call 1 0 0 2 3 2 57210890 0
      ∷ call 1 1 1 2 1 0 2147483648 4  -- refused with 6
      ∷ call 1 1 0 2 3 1 310567618 0
      ∷ call 1 3 3 2 3 5 2697977823 0
      ∷ up 744
      ∷ call 8 4294967295 3392120263 2147483648 0 0 0 0
      ∷ call 1 1 0 1 3 4 0 1
      ∷ call 8 1 0 0 0 1519388954 0 1
      ∷ call 1 1 0 2 3 3 1756379846 1
      ∷ call 1 0 0 1 3 2 0 4294967295
      ∷ down 600  -- refused with 9
      ∷ call 1 0 3 1 3 8 3539000463 0
      ∷ call 2 0 2 3212737479 0 0 0 0
      ∷ call 7 0 2111988471 0 2089014294 1 942079906 0
      ∷ call 1 1 1 1 3 8 14548133 0
      ∷ call 1 3 0 2 1 0 716823559 0
      ∷ call 8 2 107499403 1794211573 2482857528 2933011466 0 0
      ∷ call 2 2 3 1058305000 2147483648 1 900107142 0
      ∷ down 600
      ∷ call 1 2 3 2 3 3 0 0
      ∷ call 2 0 3 495098789 2147483648 1 2238365302 0
      ∷ call 1 0 0 1 3 5 1 0
      ∷ call 2 0 0 0 0 0 0 0
      ∷ call 6 0 0 1870265566 0 1925963531 0 0
      ∷ call 1 3 1 2 3 1 285773160 0
      ∷ [];
  ledger = record {
    requests =
        row 0 0 2 0 met 4294967296
        ∷ row 1 0 2 0 timed_out 0
        ∷ row 3 3 2 0 met 3539000463
        ∷ row 1 0 1 4294967296 met 0
        ∷ row 1 0 2 0 met 18446744069414584320
        ∷ row 0 0 1 18446744069414584320 met 0
        ∷ row 0 3 1 3539000463 met 0
        ∷ row 1 1 1 14548133 met 0
        ∷ row 3 0 2 0 met 1
        ∷ row 2 3 2 0 waiting 0
        ∷ row 0 0 1 1 met 0
        ∷ row 3 1 2 0 met 14548133
        ∷ [];
    puts = 4294967296 ∷ 18446744069414584320 ∷ 1 ∷ [];
    gets = 4294967296 ∷ 18446744069414584320 ∷ 1 ∷ [];
    removed = 0;
    count = 0;
    held = [];
  };
}

agrees_14 : Agrees drawn_14
unfolding drawn_14 shows
agrees_14 = refl

unfoldable pub drawn : List Drawn
drawn = drawn_1 ∷ drawn_2 ∷ drawn_3 ∷ drawn_4 ∷ drawn_5 ∷ drawn_6 ∷ drawn_7 ∷ drawn_8 ∷ drawn_9 ∷ drawn_10 ∷ drawn_11 ∷ drawn_12 ∷ drawn_13 ∷ drawn_14 ∷ []

pub agree : Each Agrees drawn
unfolding Each drawn
agree = (agrees_1, (agrees_2, (agrees_3, (agrees_4, (agrees_5, (agrees_6, (agrees_7, (agrees_8, (agrees_9, (agrees_10, (agrees_11, (agrees_12, (agrees_13, (agrees_14, tt))))))))))))))
