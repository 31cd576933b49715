mod CallLemmas
mod ItemLemmas
mod ListingLemmas
mod OverLemmas
mod PlanLemmas
mod PutLemmas
mod SeenLemmas
mod ShownLemmas
